-- What is known of a whole datagram: what the reader lets through has no fault, and the reader's number is 0 only of one.
use Rattle.std.specs.Prelude.{ℕ, ◌+◌, List, [], ◌∷◌, false, ◌≡◌, length, Result}
use Rattle.std.proofs.Math.Bool.{true}
use Rattle.std.proofs.Math.Path.{refl, ap}
use Rattle.std.proofs.Common.{arith}
use Rattle.attribute.specs.Attribute.{Attr, bytes_of}
use Rattle.attribute.specs.Scan.{Pass}
use Rattle.registry.specs.Fault.{fault}
use Rattle.registry.specs.declared.Row.{Row}
use Rattle.read_message.specs.Reading as answer
use Rattle.read_message.specs.Reading.{Answer, answer_of, id_in, answer_said, reading_said, value_faults, reading_of}
use Rattle.read_message.specs.Whole.{Whole, attributes}
use Rattle.read_message.proofs.WholeLaws.{Parts, parts, told}
use Rattle.wire.specs.declared.refusal.Refusal.{Refusal}
use Rattle.read_message.specs.declared.Reading.{Reading}
use Rattle.read_first.specs.First.{starts, first_from, first_in, whole_by, is_whole, first}
use Rattle.read_first.proofs.FirstLaws.{Heads, head, later, heads, nowhere, only_whole}

no : false ≡ true → ⊥
no e = let z : ◌≡◌ {A = ℕ} 0 1 = cc in omega arith

module _ (rows : List Row) (d : List ℕ) where
  -- whole by the answer, and whole by its number
  pub yes_whole : is_whole rows d ≡ true → Whole rows d
  unfolding is_whole Whole reading_said answer_said
  yes_whole e = go (answer_of (reading_of rows d)) e
    where
      go : (a : Answer) → whole_by a ≡ true → (answer_said a (id_in (reading_of rows d))).number ≡ 0
      go (answer.Whole c m n) f = refl
      go (answer.Broken c m r p) f = absurd (no f)
      go (answer.Refused n) f = absurd (no f)

  pub number_whole : (reading_said (reading_of rows d)).number ≡ 0 → is_whole rows d ≡ true
  unfolding is_whole Whole
  number_whole e = ap (λ (r : Result Reading Refusal). whole_by (answer_of r)) (told rows d e)

  pub passes : is_whole rows d ≡ true → Parts rows d
  passes e = parts rows d (yes_whole e)

-- of attributes whose values pass, the first of a type has no fault
first_passes : (rows : List Row) (k p : ℕ) (xs : List Attr) {q : ℕ} {a : Attr} → Pass (value_faults rows) p xs → first_from k p xs ≡ starts q a
    → fault rows k a.value ≡ 0
unfolding value_faults
first_passes rows k p [] h f = absurd (nowhere k p f)
first_passes rows k p (c ∷ xs) {q} {a} h f = go (heads k p c a q xs f) (first_passes rows k (p + length (bytes_of c)) xs h.1)
  where
    go : Heads k p c a q xs → (first_from k (p + length (bytes_of c)) xs ≡ starts q a → fault rows k a.value ≡ 0) → fault rows k a.value ≡ 0
    go (head i j l) r = rw (← i, ← l) h.0
    go (later i) r = r i

-- what the reader lets through passes the rule of its type: over the list of types, and for every type
pub served : (rows : List Row) (k : ℕ) (d : List ℕ) {p : ℕ} {a : Attr} → first rows k d ≡ starts p a → fault rows k a.value ≡ 0
unfolding first_in
served rows k d e =
    let w : (is_whole rows d ≡ true) × (first_in k d ≡ starts _ _) = only_whole rows k d e in
    first_passes rows k 20 (attributes d) (passes rows d w.0).values w.1
