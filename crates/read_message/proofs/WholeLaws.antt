-- What it takes to be whole, and what the reading of a whole datagram says: over the list of types.
use Rattle.std.specs.Prelude.{ℕ, ◌<◌, List, [], ◌≡◌, length, drop, Bool, true, false, Result, Ok, Err, is_ok}
use Rattle.std.proofs.Math.Path.{refl, sym, ap}
use Rattle.std.proofs.Common.{◌∙◌, eq-eqb, ne_eqb}
use native.Mathlib.Omega.{arith}
use Rattle.std.proofs.Math.Decide.{dec_lt}
use Rattle.big_endian.specs.Numbers.{be16}
use Rattle.wire.specs.TypeNumber.{class_of, method_of, class_numbered}
use Rattle.wire.specs.declared.method.Method.{Method}
use Rattle.wire.specs.declared.refusal.Refusal.{Refusal}
use Rattle.wire.specs.declared.types.MessageClass.{MessageClass}
use Rattle.header.specs.Header.{header_fault, id_of}
use Rattle.attribute.specs.Attribute.{Body, rest, parse}
use Rattle.attribute.specs.Scan.{Scan, scan, scanned, Pass}
use Rattle.attribute.specs.PassLaws.{AllPass, passed_all, all_passed, fault_some}
use Rattle.attribute.specs.declared.Fault.{Fault}
use Rattle.registry.specs.declared.Row.{Row}
use Rattle.read_fingerprints.specs.Fingerprints.{print_faults}
use Rattle.read_message.specs.Reading as answer
use Rattle.read_message.specs.Reading.{Answer, answer_of, id_in, answer_said, reading_said, value_faults, and_then, outcome, answered, reading_of}
use Rattle.read_message.specs.Whole.{Whole, attributes}
use Rattle.read_message.specs.declared.Reading.{Reading}

-- the header is good, the attributes cover the body, and each passes by its value and as a FINGERPRINT
pub record Parts (rows : List Row) (d : List ℕ) : Type 0 where
  pub header : header_fault d ≡ 0
  pub covered : rest (parse 0 (drop 20 d)) ≡ []
  pub values : Pass (value_faults rows) 20 (attributes d)
  pub prints : Pass (print_faults d) 20 (attributes d)

-- the reading of a whole datagram: class, method and ID of the header, and how many attributes there are
abbrev pub whole_of : List ℕ → Result Reading Refusal
whole_of d = Ok (record {
  class = class_numbered (class_of (be16 d 0));
  method = record { code = method_of (be16 d 0) };
  id = record { bytes = id_of d };
  attributes = Ok (length (attributes d));
})

module _ (rows : List Row) (d : List ℕ) where
  -- the number is the answer's
  pub number_by : {a : Answer} → answer_of (reading_of rows d) ≡ a → (reading_said (reading_of rows d)).number ≡ (answer_said a (id_in (reading_of rows d))).number
  unfolding reading_said
  number_by e = ap (λ (a : Answer). (answer_said a (id_in (reading_of rows d))).number) e

  -- the answer behind a good header, and without one
  pub judged_answer : header_fault d ≡ 0
      → answer_of (reading_of rows d) ≡ answered (class_numbered (class_of (be16 d 0))) (record { code = method_of (be16 d 0) }) (outcome rows d)
  unfolding reading_of
  judged_answer e = simp (eq-eqb (header_fault d) 0 e)

  pub refused_answer : 0 < header_fault d → answer_of (reading_of rows d) ≡ answer.Refused (header_fault d)
  unfolding reading_of
  refused_answer h = simp (ne_eqb (header_fault d) 0 (λ e. omega arith))

  scans : header_fault d ≡ 0 → (c : MessageClass) (m : Method) (s t : Scan) → s ≡ scanned (value_faults rows) d → t ≡ scanned (print_faults d) d
      → (i : List ℕ) → (answer_said (answered c m (and_then s t)) i).number ≡ 0 → Parts rows d
  unfolding scanned answer_said
  scans z c m (Ok n) (Ok k) e f i q =
      let v : AllPass (value_faults rows) 0 20 (parse 0 (drop 20 d)) n = passed_all (value_faults rows) 0 20 (parse 0 (drop 20 d)) (sym e) in
      let w : AllPass (print_faults d) 0 20 (parse 0 (drop 20 d)) k = passed_all (print_faults d) 0 20 (parse 0 (drop 20 d)) (sym f) in
      record { header = z; covered = v.covered; values = v.each; prints = w.each }
  scans z c m (Ok n) (Err f') e f i q = absurd (fault_some (print_faults d) 0 20 (parse 0 (drop 20 d)) (sym f) q)
  scans z c m (Err f') t e f i q = absurd (fault_some (value_faults rows) 0 20 (parse 0 (drop 20 d)) (sym e) q)

  pub parts : Whole rows d → Parts rows d
  unfolding Whole answer_said outcome
  parts w = by (dec_lt 0 (header_fault d))
    where
      by : Dec (0 < header_fault d) → Parts rows d
      by (yes h) = let z : header_fault d ≡ 0 = sym (number_by (refused_answer h)) ∙ w in absurd (omega arith)
      by (no h) =
          let z : header_fault d ≡ 0 = omega arith in
          scans z _ _ _ _ refl refl _ (sym (number_by (judged_answer z)) ∙ w)

  pub parts_told : Parts rows d → reading_of rows d ≡ whole_of d
  unfolding reading_of outcome scanned
  parts_told p =
      let b : Body = parse 0 (drop 20 d) in
      let v : scan (value_faults rows) 0 20 b ≡ Ok (length (attributes d)) = all_passed (value_faults rows) 0 20 b p.values p.covered (omega arith) in
      let w : scan (print_faults d) 0 20 b ≡ Ok (length (attributes d)) = all_passed (print_faults d) 0 20 b p.prints p.covered (omega arith) in
      rw (p.header, v, w)

  pub parts_whole : Parts rows d → Whole rows d
  unfolding Whole reading_said answer_said
  parts_whole p = ap (λ (r : Result Reading Refusal). (reading_said r).number) (parts_told p)

  pub told_whole : {c : MessageClass} {m : Method} {n : ℕ} → answer_of (reading_of rows d) ≡ answer.Whole c m n → Whole rows d
  unfolding Whole answer_said
  told_whole e = number_by e

  -- what the reader tells of a whole datagram
  pub told : Whole rows d → reading_of rows d ≡ whole_of d
  told w = parts_told (parts w)

  -- a refusal's number is never nought, nor is that of a first fault
  pub refusal_some : {r : Refusal} → reading_of rows d ≡ Err r → r.number ≡ 0 → ⊥
  unfolding Whole reading_said answer_said
  refusal_some e z =
      let w : Whole rows d = ap (λ (x : Result Reading Refusal). (reading_said x).number) e ∙ z in
      let y : ◌≡◌ {A = Bool} true false = ap is_ok (sym (told w) ∙ e) in
      absurd cc

  pub reason_some : {r : Reading} {f : Fault} → reading_of rows d ≡ Ok r → r.attributes ≡ Err f → f.reason.number ≡ 0 → ⊥
  unfolding Whole reading_said answer_said
  reason_some {r} e g z =
      let w : Whole rows d =
      ap (λ (x : Result Reading Refusal). (reading_said x).number) e
      ∙ ap (λ (s : Scan). (answer_said (answered r.class r.method s) r.id.bytes).number) g
      ∙ z
      in
      let y : ◌≡◌ {A = Bool} true false = ap sound (sym (told w) ∙ e) ∙ ap is_ok g in
      absurd cc
    where
      sound : Result Reading Refusal → Bool
      sound (Ok r) = is_ok r.attributes
      sound (Err r) = false
