-- What the page of a word and its bits below the page's size tell: x stands for these bits. Assumes nothing.
use mathlib.Core.Path.{◌≡◌, refl, sym, ap, ap₂, ◌∙◌, subst}
use mathlib.Core.Bool.{true, false}
use mathlib.Core.Logic.{◌≢◌}
use Prim.Native.Nat.{ℕ, suc, ◌+◌, ◌-◌, ◌*◌, ◌/◌, ◌%◌, ◌^◌, ◌≤◌, ◌<◌}
use native.Mathlib.Nat.{suc-mul, mul-pos, mul-le-mul_right, mod-lt, div-add-mod', div-lt_iff_lt-mul}
use native.Mathlib.Omega.{arith}
use lib.Dec.{leb, ltb}
use lib.Bits.{bit_and, and_mask, and_block}
use lib.Pow.{pow_pos, pow-add, pow_mono, mod-pow-add}
use borrow.Author.Tests.{eq-eqb, ne_eqb, ltb-true, lt-ltb, leb-true, le-leb}
use Rattle.memory.specs.Geometry.{page_words, page_bytes, address_end, address, page_of, place}
use Rattle.memory.specs.Entry.{entry, accessible, rights}
use Rattle.memory.proofs.Geometry.{bytes_pos, address_end-is}
use Rattle.memory.proofs.Widths.{words-most}
use Rattle.soundness.specs.Test.{virtual}
use Rattle.own_pages.proofs.Laws.Tests.{same_test}

-- a word is the address of its page, and its place there
word-parts : (b w : ℕ) → address b (page_of b w) + place b w ≡ w
word-parts b w = div-add-mod' w (4 * 2 ^ b)

-- ---- an address

-- n pages end at an address: a word below it names one of them
pub page-below : (b w n : ℕ) → ltb w (address b n) ≡ ltb (page_of b w) n
page-below b w n = same_test (ltb w (address b n)) (ltb (page_of b w) n) there back
  where
    there : ltb w (address b n) ≡ true → ltb (page_of b w) n ≡ true
    there e = lt-ltb (page_of b w) n ((div-lt_iff_lt-mul (bytes_pos b)).1 (ltb-true w (address b n) e))

    back : ltb (page_of b w) n ≡ true → ltb w (address b n) ≡ true
    back e = lt-ltb w (address b n) ((div-lt_iff_lt-mul (bytes_pos b)).0 (ltb-true (page_of b w) n e))

-- the last virtual page ends where the addresses do
last_end : (b : ℕ) → address b (page_words b * page_words b - 1) + page_bytes b ≡ address_end b
last_end b =
    let l : 0 < page_words b * page_words b = mul-pos (pow_pos b) (pow_pos b) in
    let e : suc (page_words b * page_words b - 1) ≡ page_words b * page_words b = omega arith in
    sym (suc-mul (page_words b * page_words b - 1) (page_bytes b)) ∙ ap (λ (x : ℕ). x * page_bytes b) e ∙ sym (address_end-is b)

pub last_fits : (b : ℕ) → b ≤ 10 → address b (page_words b * page_words b - 1) < 4294967296
last_fits b h =
    let l : address_end b ≤ 4294967296 = pow_mono {i = 3 * b + 2} {j = 32} (omega arith) in
    omega (arith, last_end b, bytes_pos b)

module _ (b v : ℕ) {x : ℕ} (e : x ≡ place b v) where
  pub virtual-not : x ≢ 0 → false ≡ virtual b v
  unfolding virtual
  virtual-not n = rw (ne_eqb (address b (page_of b v)) v (λ z. n (omega (arith, word-parts b v)))) refl

  -- a is the address of the last virtual page
  pub virtual-at : x ≡ 0 → {a : ℕ} → a ≡ address b (page_words b * page_words b - 1) → leb v a ≡ virtual b v
  unfolding virtual
  virtual-at z {a} q =
      let s : address b (page_of b v) ≡ v = omega (arith, word-parts b v) in
      rw (eq-eqb (address b (page_of b v)) v s) (same_test (leb v a) (ltb v (address_end b)) there (back s))
    where
      there : leb v a ≡ true → ltb v (address_end b) ≡ true
      there t = lt-ltb v (address_end b) (omega (arith, leb-true v a t, q, last_end b, bytes_pos b))

      back : address b (page_of b v) ≡ v → ltb v (address_end b) ≡ true → leb v a ≡ true
      back s t =
          let u = subst (λ (y : ℕ). v < y) (address_end-is b) (ltb-true v (address_end b) t) in
          let l : page_of b v < page_words b * page_words b = (div-lt_iff_lt-mul (bytes_pos b)).1 u in
          let n : address b (page_of b v) ≤ address b (page_words b * page_words b - 1) = mul-le-mul_right (page_bytes b) (omega arith) in
          le-leb v a (omega (arith, n, s, q))

-- ---- a page table word

-- the mask leaves out bits 1 to 4
masked : (x : ℕ) → x < 4294967296 → bit_and x 4294967265 ≡ x / 32 * 32 + x % 2
masked x h =
    let e : x ≡ x / 32 * 2 ^ 5 + x % 32 = omega arith in
    ap (λ (y : ℕ). bit_and y 4294967265) e ∙ and_block 5 (x / 32) 134217727 (x % 32) 1 (omega arith) (omega arith)
    ∙ ap₂ (λ (y z : ℕ). y * 32 + z) (and_mask (x / 32) 27) (and_mask (x % 32) 1) ∙ omega arith

-- a word is x and a multiple of 32: its accessible bit and its rights are the lowest five bits of x but the lowest one
flags_of : (w k x : ℕ) → 32 * k + x ≡ w → 2 * accessible w + 4 * rights w + x % 2 ≡ x % 32
flags_of w k x e =
    let s : w % 32 ≡ x % 32 = omega arith in
    let t : w % 2 ≡ x % 2 = omega arith in
    sym (ap (λ (y : ℕ). 2 * accessible w + 4 * rights w + y) t) ∙ five w ∙ s
  where
    five : (y : ℕ) → 2 * accessible y + 4 * rights y + y % 2 ≡ y % 32
    five y = omega (arith, mod-pow-add y 3 2, mod-pow-add y 1 1)

module _ (b w : ℕ) (h : 6 ≤ b) (l : b ≤ 10) {x : ℕ} (e : x ≡ place b w) where
  -- an address is a multiple of 32
  above-flags : 32 * (page_of b w * 2 ^ (b - 3)) ≡ address b (page_of b w)
  above-flags =
      let q : 3 + (b - 3) ≡ b = omega arith in
      let p : 8 * 2 ^ (b - 3) ≡ 2 ^ b = sym (pow-add 2 3 (b - 3)) ∙ ap (λ (y : ℕ). 2 ^ y) q in
      omega arith ∙ ap (λ (y : ℕ). page_of b w * (4 * y)) p

  parts : address b (page_of b w) + x ≡ w
  parts = ap (λ (y : ℕ). address b (page_of b w) + y) e ∙ word-parts b w

  flags : 2 * accessible w + 4 * rights w + x % 2 ≡ x % 32
  flags = flags_of w (page_of b w * 2 ^ (b - 3)) x (ap (λ (y : ℕ). y + x) above-flags ∙ parts)

  bits : bit_and x 4294967265 ≡ x / 32 * 32 + x % 2
  bits =
      let s : x < 4 * 2 ^ b = rw e (mod-lt w (omega (arith, pow_pos b))) in
      masked x (omega (arith, words-most b l))

  pub entry-is : bit_and x 4294967265 ≡ 1 → entry b (page_of b w) (accessible w) (rights w) ≡ w
  entry-is t = omega (arith, parts, flags, bits)

  pub entry-not : bit_and x 4294967265 ≢ 1 → entry b (page_of b w) (accessible w) (rights w) ≢ w
  entry-not t z = t (bits ∙ omega (arith, parts, flags))
