-- The loop of `xor_bytes`: i bytes are done.
use Rattle.std.specs.Prelude.{ℕ, zero, suc, ◌+◌, ◌≤◌, ◌<◌, min, List, [], ◌∷◌, ◌++◌, ◌⊎◌, ◌≡◌, refl, length, get_or, set, take, drop}
use Rattle.std.proofs.Common.{sym, ap, ap₂, ◌∙◌, arith, add-one, length-drop, drop_of_length-le, ⊎_elim}
use Rattle.std.specs.Int.Bits.{bit_xor}
use Rattle.std.proofs.Math.Seq.{take_all}
use mathlib.Core.List.{append-nil}
use borrow.Rule.Slice.PartMut.{mid_of, post_of, put_mid}
use Rattle.cookie.specs.Cookie.{cookie}
use Rattle.net.specs.Net.{ip_size, xored}
use Rattle.net.specs.NetLaws.{length-xored, xored_nil, xored_behind, xored-append}
use Rattle.net.specs.declared.Family.{Family}
use Rattle.net.specs.declared.Family.TheVariants.{Ipv6}

-- one byte more is xored
next : (s k : List ℕ) (i : ℕ) → i < length k
    → set (xored s (take i k)) i (bit_xor (get_or (xored s (take i k)) i 0) (get_or k i 0)) ≡ xored s (take (suc i) k)
unfolding xored
next [] k i h = refl
next (a ∷ s) [] i h = absurd (omega arith)
next (a ∷ s) (b ∷ k) zero h = ap (λ (r : List ℕ). bit_xor a b ∷ r) (sym (xored_nil s))
next (a ∷ s) (b ∷ k) (suc i) h = ap (λ (r : List ℕ). bit_xor a b ∷ r) (next s k i (omega arith))

module _ (l k : List ℕ) {m : List ℕ} {i : ℕ} (e : m ≡ xored l (take i k)) where
  pub turn : i < length k → set m i (bit_xor (get_or m i 0) (get_or k i 0)) ≡ xored l (take (i + 1) k)
  turn h = rw (add-one, e) (next l k i h)

  pub done : min (length l) (length k) ≤ i → m ≡ xored l k
  done h = ⊎_elim (λ p. e ∙ xored_behind l k i p) (λ p. e ∙ ap (xored l) (take_all i k p)) (cases h)
    where
      cases : min (length l) (length k) ≤ i → (length l ≤ i) ⊎ (length k ≤ i)
      cases h = grind arith

-- an IP of 16 bytes: the cookie's four, and the ID's behind them
pub ip_16 : (s k : List ℕ) {f : Family} {m n : List ℕ} → length s ≡ 16 → length k ≡ 12 → f ≡ Ipv6
    → m ≡ xored s cookie → n ≡ xored (mid_of 4 12 m) k → put_mid 4 12 m n ≡ xored s (take (ip_size f) (cookie ++ k))
ip_16 s k {f} {m} {n} a b e p q =
    let l : length m ≡ 16 = ap length p ∙ length-xored s cookie ∙ a in
    let mid : mid_of 4 12 m ≡ drop 4 m = take_all 12 (drop 4 m) (simp length-drop (omega arith)) in
    let post : post_of 4 12 m ≡ [] = drop_of_length-le (drop 4 m) {i = 12} (simp length-drop (omega arith)) in
    let both : n ++ post_of 4 12 m ≡ xored (drop 4 m) k = ap₂ {C = List ℕ} (λ u v. u ++ v) (q ∙ ap (λ (x : List ℕ). xored x k) mid) post ∙ append-nil (xored (drop 4 m) k) in
    let all : take 16 (cookie ++ k) ≡ cookie ++ k = take_all 16 (cookie ++ k) (omega arith) in
    rw (e, all) (ap (λ (x : List ℕ). take 4 m ++ x) both ∙ rw p (xored-append s cookie k))
