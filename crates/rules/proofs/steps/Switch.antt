-- One partition hands over to another: the words 12 of two descriptors and word 4 of page 0 alone are written. Assumes an index width of 6 or more.
use mathlib.Core.Path.{◌≡◌, ap, ◌∙◌}
use mathlib.Core.Logic.{◌≢◌}
use mathlib.Core.List.{List}
use Prim.Native.Nat.{ℕ, ◌≤◌, ◌<◌}
use native.Mathlib.Omega.{arith}
use Rattle.memory.specs.Partition.{current, flag}
use Rattle.rules.specs.Effects.{switch}
use Rattle.rules.proofs.model.Words.{W, Sized, addr, page_of, word, put, page_of-addr, sixty_one, put-sized, word-put-same, word-put-other}

module _ {b : ℕ} (wide : 6 ≤ b) (m : List ℕ) (d k x y : ℕ) where
  four : 4 < W b
  four = omega (arith, sixty_one wide)

  twelve : 12 < W b
  twelve = omega (arith, sixty_one wide)

  pub switch-other : (q j : ℕ) → j < W b → j ≢ 4 → j ≢ 12 → word b (switch b m d k x y) q j ≡ word b m q j
  unfolding switch put addr
  switch-other q j l n o =
      word-put-other wide (put b (put b m d 12 x) k 12 y) 0 4 (addr b k) q j four l (λ z. n z.1)
      ∙ word-put-other wide (put b m d 12 x) k 12 y q j twelve l (λ z. o z.1)
      ∙ word-put-other wide m d 12 x q j twelve l (λ z. o z.1)

  module _ (N : ℕ) (s : Sized b N m) where
    pub switch-current : 0 < N → current b (switch b m d k x y) ≡ k
    unfolding switch put addr word page_of
    switch-current l =
        let z : Sized b N (put b (put b m d 12 x) k 12 y) = put-sized wide N _ k 12 y (put-sized wide N m d 12 x s) in
        ap (page_of b) (word-put-same wide N (put b (put b m d 12 x) k 12 y) 0 4 (addr b k) z l four) ∙ page_of-addr wide k

    pub switch-flag : k < N → flag b (switch b m d k x y) k ≡ y
    unfolding switch put addr word
    switch-flag l =
        word-put-other wide (put b (put b m d 12 x) k 12 y) 0 4 (addr b k) k 12 four twelve (λ z. omega (arith, z.1))
        ∙ word-put-same wide N (put b m d 12 x) k 12 y (put-sized wide N m d 12 x s) l twelve
