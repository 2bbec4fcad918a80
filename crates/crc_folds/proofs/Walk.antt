-- Bytes of a slice, several at once.
use Rattle.std.proofs.Common.{◌≡◌, ℕ, ◌+◌, ◌-◌, ◌*◌, ◌^◌, ◌≤◌, ◌<◌, List, [], ◌∷◌, ◌++◌, length, get_or, take, drop, refl, sym, ap, ap₂, ◌∙◌, le_of_eq, add-one, arith, length-take, length-drop, take-append-drop, drop-cons, drop-drop, take_all, w32, w64}
use Rattle.std.specs.Int.{from_le_bytes}
use Rattle.std.specs.Int.Bits.{bit_xor, xor_shifted}
use Rattle.std.proofs.lemmas.Nat.{xor_comm}
use Rattle.base.specs.Bytes.{Bytes}
use Rattle.crc.specs.Crc.{bytes_from}
use Rattle.crc.specs.Octets.{octets, word}
use Rattle.crc.proofs.CrcLaws.{bytes_from-append, at_once}

pub part : (n : ℕ) (s : List ℕ) (i r : ℕ) → n ≤ length s - i
    → bytes_from (octets n (bit_xor r (word (take n (drop i s))))) (drop (i + n) s) ≡ bytes_from r (drop i s)
part n s i r h =
    let e : length (take n (drop i s)) ≡ n = simp (length-take, length-drop) (omega arith) in
    ap (λ (k : ℕ). bytes_from (octets k (bit_xor r (word (take n (drop i s))))) (drop (i + n) s)) (sym e)
    ∙ ap₂ bytes_from (sym (at_once r (take n (drop i s)))) (sym (drop-drop n i s))
    ∙ sym (bytes_from-append r (take n (drop i s)) (drop n (drop i s)))
    ∙ ap (bytes_from r) (take-append-drop n (drop i s))

pub whole_rest : (s : List ℕ) (i : ℕ) → take (length s - i) (drop i s) ≡ drop i s
whole_rest s i = take_all (length s - i) (drop i s) (le_of_eq (length-drop i s))

-- bytes as a number by sums
abbrev little : List ℕ → ℕ
little [] = 0
little (b ∷ s) = little s * 256 + b

summed : (s : List ℕ) → Bytes s → word s ≡ little s
unfolding word
summed [] h = refl
summed (b ∷ s) (h, hs) =
    let e : word s ≡ little s = summed s hs in
    ap (λ (w : ℕ). bit_xor b (w * 2 ^ 8)) e ∙ xor_comm b (little s * 2 ^ 8) ∙ xor_shifted (little s) 8 b h

from : (s : List ℕ) (k : ℕ) (t : List ℕ) {j : ℕ} → j ≡ k + 1 → k < length s → t ≡ drop j s → get_or s k 0 ∷ t ≡ drop k s
from s k t e l f = rw (f, e, add-one, drop-cons s k 0 l) refl

-- eight bytes at a place
module _ (s : List ℕ) (i : ℕ) where
  abbrev eight_at : List ℕ
  eight_at =
      get_or s i 0 ∷ get_or s (i + 1) 0 ∷ get_or s (i + 2) 0 ∷ get_or s (i + 3) 0 ∷ get_or s (i + 4) 0 ∷ get_or s (i + 5) 0 ∷ get_or s (i + 6) 0
      ∷ get_or s (i + 7) 0 ∷ []

  front : i + 8 ≤ length s → eight_at ++ drop (i + 8) s ≡ drop i s
  front l =
      from s i _ (omega arith) (omega arith)
      (from s (i + 1) _ (omega arith) (omega arith)
      (from s (i + 2) _ (omega arith) (omega arith)
      (from s (i + 3) _ (omega arith) (omega arith)
      (from s (i + 4) _ (omega arith) (omega arith)
      (from s (i + 5) _ (omega arith) (omega arith) (from s (i + 6) _ (omega arith) (omega arith) (from s (i + 7) _ (omega arith) (omega arith) refl)))))))

  pub eight : {w : ℕ} → i + 8 ≤ length s → ((k : ℕ) → get_or s k 0 < 256) → w ≡ from_le_bytes w64 eight_at → w ≡ word (take 8 (drop i s))
  eight {w} l h e =
      let sum : from_le_bytes w64 eight_at ≡ little eight_at = omega arith in
      let bytes : Bytes eight_at = (h i, (h (i + 1), (h (i + 2), (h (i + 3), (h (i + 4), (h (i + 5), (h (i + 6), (h (i + 7), tt)))))))) in
      e ∙ sum ∙ sym (summed eight_at bytes) ∙ ap (λ (t : List ℕ). word (take 8 t)) (front l)

-- and four at the front
pub four : (s : List ℕ) {w : ℕ} → 4 ≤ length s → ((k : ℕ) → get_or s k 0 < 256) → w ≡ from_le_bytes w32 (get_or s 0 0 ∷ get_or s 1 0 ∷ get_or s 2 0 ∷ get_or s 3 0 ∷ [])
    → w ≡ word (take 4 s)
four s {w} l h e =
    let bs = get_or s 0 0 ∷ get_or s 1 0 ∷ get_or s 2 0 ∷ get_or s 3 0 ∷ [] in
    let front : bs ++ drop 4 s ≡ s =
    from s 0 _ {j = 1} (omega arith) (omega arith)
    (from s 1 _ {j = 2} (omega arith) (omega arith) (from s 2 _ {j = 3} (omega arith) (omega arith) (from s 3 _ {j = 4} (omega arith) (omega arith) refl))) in
    let sum : from_le_bytes w32 bs ≡ little bs = omega arith in
    e ∙ sum ∙ sym (summed bs (h 0, (h 1, (h 2, (h 3, tt))))) ∙ ap (λ (t : List ℕ). word (take 4 t)) front
