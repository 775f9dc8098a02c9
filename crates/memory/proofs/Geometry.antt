-- The parts of an address, over every width; T is the smallest number that document 01 asks for. Assumes nothing.
use mathlib.Core.Path.{◌≡◌, sym, ap, ◌∙◌, subst}
use Prim.Native.Nat.{ℕ, ◌+◌, ◌-◌, ◌*◌, ◌/◌, ◌%◌, ◌^◌, ◌≤◌, ◌<◌}
use native.Mathlib.Nat.{mul_comm, mul_assoc, mul-lt-mul_of_pos_right, mod-lt, mul-pos, le_of_suc-le-suc, suc-mul, div-lt_iff_lt-mul, lt-div-mul-add}
use native.Mathlib.Omega.{arith}
use lib.Arith.{digits_lt, digits_div}
use lib.Pow.{pow_pos, pow-add, high, low}
use Rattle.memory.specs.Geometry.{page_words, page_bytes, address_end, address, page_of, directory_index, place, threes_for}
use Rattle.memory.specs.Words.{index}

pub index-page : (b p i : ℕ) → i < page_words b → index b p i / page_words b ≡ p
index-page b p i h = high p b h

pub index-place : (b p i : ℕ) → i < page_words b → index b p i % page_words b ≡ i
index-place b p i h = low p b h

pub index_inj : (b p q i j : ℕ) → i < page_words b → j < page_words b → index b p i ≡ index b q j → (p ≡ q) × (i ≡ j)
index_inj b p q i j h k e = (
  sym (index-page b p i h) ∙ ap (λ (x : ℕ). x / page_words b) e ∙ index-page b q j k,
  sym (index-place b p i h) ∙ ap (λ (x : ℕ). x % page_words b) e ∙ index-place b q j k,
)

-- ---- a virtual address and its parts

pub bytes_pos : (b : ℕ) → 0 < page_bytes b
bytes_pos b = mul-pos {m = 4} (omega arith) (pow_pos b)

pub place-lt : (b v : ℕ) → place b v < page_bytes b
place-lt b v = mod-lt v (bytes_pos b)

pub page-address : (b x : ℕ) → page_of b (address b x) ≡ x
page-address b x =
    let e : x * page_bytes b ≡ x * page_bytes b + 0 = omega arith in
    ap (λ (y : ℕ). y / page_bytes b) e ∙ digits_div x (bytes_pos b)

pub address_inj : (b x y : ℕ) → address b x ≡ address b y → x ≡ y
address_inj b x y e = sym (page-address b x) ∙ ap (page_of b) e ∙ page-address b y

-- the width: 2 ^ (3b+2) is the product of the three parts'
pub address_end-is : (b : ℕ) → address_end b ≡ page_words b * page_words b * page_bytes b
address_end-is b =
    pow-add 2 (3 * b) 2
    ∙ ap (λ (x : ℕ). 2 ^ x * 4) three
    ∙ ap (λ (x : ℕ). x * 4) (pow-add 2 (b + b) b ∙ ap (λ (x : ℕ). x * 2 ^ b) (pow-add 2 b b))
    ∙ mul_assoc (2 ^ b * 2 ^ b) (2 ^ b) 4
    ∙ ap (λ (x : ℕ). 2 ^ b * 2 ^ b * x) (mul_comm (2 ^ b) 4)
  where
    three : 3 * b ≡ b + b + b
    three = omega arith

pub directory_index-lt : (b v : ℕ) → v < address_end b → directory_index b (page_of b v) < page_words b
directory_index-lt b v h =
    (div-lt_iff_lt-mul (pow_pos b)).1 ((div-lt_iff_lt-mul (bytes_pos b)).1 (subst (λ (x : ℕ). v < x) (address_end-is b) h))

pub address-lt : (b d t : ℕ) → d < page_words b → t < page_words b → address b (d * page_words b + t) < address_end b
address-lt b d t h k =
    subst (λ (e : ℕ). address b (d * page_words b + t) < e) (sym (address_end-is b)) (mul-lt-mul_of_pos_right (digits_lt h k) (bytes_pos b))

-- ---- "T is the smallest number with 67T ≥ N−5"

pub threes_for-enough : (b n : ℕ) → n - 5 ≤ (2 ^ b + 3) * threes_for b n
threes_for-enough b n =
    omega (arith, lt-div-mul-add {a = n - 5 + (2 ^ b + 2)} {b = 2 ^ b + 3} (omega arith), mul_comm (2 ^ b + 3) (threes_for b n))

pub threes_for-least : (b n t : ℕ) → n - 5 ≤ (2 ^ b + 3) * t → threes_for b n ≤ t
threes_for-least b n t h =
    le_of_suc-le-suc ((div-lt_iff_lt-mul {k = 2 ^ b + 3} (omega arith)).1 (omega (arith, suc-mul t (2 ^ b + 3), mul_comm (2 ^ b + 3) t)))
