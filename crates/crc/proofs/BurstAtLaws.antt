-- The burst law over places.
use Rattle.std.specs.Prelude.{◌≡◌, ◌⊎◌, List, ◌++◌, ℕ, ◌+◌, ◌≤◌, ◌<◌, length, get_or, take, drop}
use Rattle.std.proofs.Common.{sym, ap, ap₂, ◌∙◌, arith, length-take, length-drop}
use Rattle.base.specs.Bytes.{Bytes}
use Rattle.crc.specs.Crc.{crc32_of}
use Rattle.crc.proofs.BurstLaws.{burst}
use Rattle.crc.proofs.WindowLaws.{parts, fronts, backs}

-- THE BURST LAW, over places: the window is k .. k + 3
module _ (xs ys : List ℕ) (k : ℕ) (e : length xs ≡ length ys) (same : (i : ℕ) → (i < k) ⊎ (k + 4 ≤ i) → get_or xs i 0 ≡ get_or ys i 0) where
  pub burst_at : Bytes (take 4 (drop k xs)) → Bytes (take 4 (drop k ys)) → crc32_of xs ≡ crc32_of ys → xs ≡ ys
  burst_at hx hy p = sym (parts xs k) ∙ whole (burst (take k xs) v w (drop 4 (drop k xs)) hx hy lengths short q) ∙ parts ys k
    where
      v : List ℕ
      v = take 4 (drop k xs)

      w : List ℕ
      w = take 4 (drop k ys)

      lengths : length v ≡ length w
      lengths = simp (length-take, length-drop, e)

      short : length v ≤ 4
      short = omega (arith, length-take 4 (drop k xs))

      whole : v ≡ w → take k xs ++ v ++ drop 4 (drop k xs) ≡ take k ys ++ w ++ drop 4 (drop k ys)
      whole z = ap₂ {C = List ℕ} (λ l r. l ++ r) (ap₂ {C = List ℕ} (λ l r. l ++ r) (fronts xs ys k e same) z) (backs xs ys k e same)

      q : crc32_of (take k xs ++ v ++ drop 4 (drop k xs)) ≡ crc32_of (take k xs ++ w ++ drop 4 (drop k xs))
      q =
          ap crc32_of (parts xs k) ∙ p
          ∙ ap crc32_of (sym (parts ys k) ∙ ap₂ {C = List ℕ} (λ l r. l ++ w ++ r) (sym (fronts xs ys k e same)) (sym (backs xs ys k e same)))
