-- SIGNED: where a whole message has no MESSAGE-INTEGRITY yet, the one appended with a key is found good by that key (docs/SCOPE.md, "Checking integrity").
use Rattle.std.specs.Prelude.{ℕ, ◌+◌, List, [], ◌∷◌, ◌++◌, Bool, true, false, ◌≡◌, length, take, eqb, Ok}
use Rattle.std.proofs.Math.Path.{refl, ap}
use Rattle.std.proofs.Common.{sym, ◌∙◌, arith, add-zero, eq-eqb, length-append}
use Rattle.base.specs.Choice.{pick}
use Rattle.base.specs.Bytes.{Bytes}
use Rattle.wire.specs.declared.method.Method.{Method}
use Rattle.wire.specs.declared.types.MessageClass.{MessageClass}
use Rattle.attribute.specs.Attribute.{Attr, bytes_of, all_bytes}
use Rattle.registry.specs.Rows.{rfc5389}
use Rattle.read_message.specs.Reading.{reading_of, answer_of}
use Rattle.read_message.specs.Reading.{Whole}
use Rattle.read_first.specs.First.{none, starts, first_from, first_in, whole_by, is_whole, is_there}
use Rattle.write_plan.specs.Plan.{size_of}
use Rattle.write_plan.proofs.PlanLaws.{message}
use Rattle.write_plan.proofs.PlanLaws as plan
use Rattle.write_raw.specs.Append.{answer, appended}
use Rattle.write_raw.specs.AppendLaws.{total_goes}
use Rattle.read_integrity.specs.Integrity.{integrity_fault}
use Rattle.read_integrity.specs.IntegrityLaws.{signed_0}
use Rattle.write_close.specs.Seal.{integrity}
use Rattle.round_trip.specs.Message.{Message, message_of, held}
use Rattle.round_trip.specs.Appending.{held_length, appended_message}
use Rattle.round_trip.specs.Sealed.{low, signed, signed_whole}

-- behind attributes with none of a type, one of it is the first
first_behind : (k p : ℕ) (xs : List Attr) (a : Attr) → a.kind ≡ k → first_from k p xs ≡ none
    → first_from k p (xs ++ (a ∷ [])) ≡ starts (p + length (all_bytes xs)) a
unfolding first_from is_there
first_behind k p [] a e f = simp (eq-eqb a.kind k e) (ap (λ (q : ℕ). starts q a) (sym (add-zero p)))
first_behind k p (x ∷ xs) a e f = go (eqb x.kind k) f (λ r. first_behind k (p + length (bytes_of x)) xs a e r)
  where
    go : (b : Bool) → pick b (starts p x) (first_from k (p + length (bytes_of x)) xs) ≡ none
        → (first_from k (p + length (bytes_of x)) xs ≡ none → first_from k (p + length (bytes_of x)) (xs ++ (a ∷ [])) ≡ starts (p + length (bytes_of x) + length (all_bytes xs)) a)
        → pick b (starts p x) (first_from k (p + length (bytes_of x)) (xs ++ (a ∷ []))) ≡ starts (p + length (bytes_of x ++ all_bytes xs)) a
    go true r ih = let z : true ≡ false = ap is_there r in let y : ◌≡◌ {A = ℕ} 0 1 = cc in absurd (omega arith)
    go false r ih =
        let n : p + length (bytes_of x) + length (all_bytes xs) ≡ p + length (bytes_of x ++ all_bytes xs) = omega (arith, length-append (bytes_of x) (all_bytes xs)) in
        ih r ∙ ap (λ (q : ℕ). starts q a) n

module _ (key d : List ℕ) {t : ℕ} (h : Bytes d) (e : answer d 0 (integrity key d) ≡ Ok t) where
  there : plan.Message d
  there = message d (total_goes d 0 (integrity key d) e).2.fault

  kind_is : (integrity key d).kind ≡ 0x0008
  unfolding integrity
  kind_is = refl

  found : first_in 0x0008 (take (size_of d) d) ≡ none → first_in 0x0008 (take t (appended d 0 (integrity key d))) ≡ starts (size_of d) (integrity key d)
  unfolding first_in message_of
  found f =
      ap (λ (m : Message). first_from 0x0008 20 m.attributes) (appended_message d 0 (integrity key d) h (low key d h e) e)
      ∙ first_behind 0x0008 20 (held d).attributes (integrity key d) kind_is f
      ∙ ap (λ (n : ℕ). starts (20 + n) (integrity key d)) (held_length d h there)

  pub signed_good : {c : MessageClass} {m : Method} {n : ℕ} → answer_of (reading_of rfc5389 (take (size_of d) d)) ≡ Whole c m n
      → first_in 0x0008 (take (size_of d) d) ≡ none → integrity_fault rfc5389 (take t (appended d 0 (integrity key d))) key ≡ 0
  unfolding is_whole
  signed_good w f =
      signed_0
      (record { whole = ap whole_by (signed_whole key d h e w); place = size_of d; attr = integrity key d; there = found f; value = signed key d h e })
