-- The longest body (docs/SCOPE.md, "Writing: append"): 65,532 bytes may be written, and one attribute more gives 25.
use Rattle.wire.specs.Refusal.{by}
use Prim.Native.Nat.{ℕ, ◌+◌, ◌%◌, ◌≤◌, ◌<◌}
use mathlib.Core.List.{List, [], ◌∷◌, ◌++◌}
use Rattle.std.specs.Prelude.{◌≡◌, replicate, Ok, Err}
use Rattle.std.proofs.Math.Path.{refl, ap}
use Rattle.std.proofs.Common.{sym, ◌∙◌, arith, length-append}
use Rattle.std.proofs.Math.ListN.{length, drop}
use Rattle.std.proofs.lemmas.List.{length-replicate}
use Rattle.big_endian.specs.Numbers.{be16}
use Rattle.wire.specs.TypeNumber.{type_of, class_number}
use Rattle.wire.specs.TypeLaws.{type_below, class_small}
use Rattle.wire.specs.declared.types.MessageClass.TheVariants.{Request}
use Rattle.attribute.specs.Attribute.{padded, Attr, all_bytes}
use Rattle.write_plan.proofs.PlanLaws.{long, plan_is}
use Rattle.write_raw.specs.Append.{attr, answered, plan_for, answer}
use Rattle.round_trip.specs.Message.{Message, bytes_of, Shaped, write, said}
use Rattle.round_trip.specs.FrontLaws.{front, is_message, body_is}
use Rattle.round_trip.specs.WriteAgain.{bytes_length}
use Rattle.round_trip.specs.WriteAgain as again

abbrev ID : List ℕ
ID = 0 ∷ 1 ∷ 2 ∷ 3 ∷ 4 ∷ 5 ∷ 6 ∷ 7 ∷ 8 ∷ 9 ∷ 10 ∷ 11 ∷ []

-- in any buffer
module _ (b : List ℕ) (m : Message) (w : Shaped m) (full : length (all_bytes m.attributes) ≡ 65532) (room : length (bytes_of m) ≤ length b) where
  pub full_written : said b m ≡ Ok (length (bytes_of m))
  full_written = again.answers b m w room

  t : ℕ
  t = type_of (class_number m.class) m.method.code

  small : t < 16384
  unfolding t
  small = type_below (class_number m.class) m.method.code (class_small m.class) w.method

  buffer : write b m ≡ front t m.id.bytes m.attributes ++ drop (length (bytes_of m)) b
  unfolding front bytes_of t
  buffer = again.written b m w room

  pub full_refused : (a : Attr) → length a.value + length a.pad ≡ padded (length a.value) → answer (write b m) 0 a ≡ Err (by 25)
  unfolding answer answered plan_for
  full_refused a p =
      let r : List ℕ = drop (length (bytes_of m)) b in
      let n : be16 (front t m.id.bytes m.attributes ++ r) 2 ≡ length (all_bytes m.attributes) = body_is t m.id.bytes m.attributes r small w.id w.attributes w.body in
      ap (λ (x : List ℕ). answer x 0 a) buffer
      ∙ ap answered (sym (plan_is (long (is_message t m.id.bytes m.attributes r small w.id w.attributes w.body) refl p (omega arith))))

-- and there is such a message: one attribute of n zeros, at n = 65,528
abbrev pub zeros : ℕ → Message
zeros n = record {
  class = Request;
  method = record { code = 1 };
  id = record { bytes = ID };
  attributes = attr 0xC001 (replicate n 0) [] ∷ [];
}

zeros_body : (n : ℕ) → length (all_bytes (zeros n).attributes) ≡ 4 + n
zeros_body n = simp (length-append, length-replicate) (omega arith)

zeros_shaped : (n : ℕ) → n % 4 ≡ 0 → n ≤ 65528 → Shaped (zeros n)
zeros_shaped n e h = record {
  method = omega arith;
  id = refl;
  attributes = (record { kind_fits = omega arith; size_fits = rw length-replicate (omega arith); padding = rw length-replicate (omega arith) }, tt);
  body = rw (zeros_body n) (omega arith);
}

pub longest : (b : List ℕ) → 65552 ≤ length b
    → (said b (zeros 65528) ≡ Ok 65552)
    × ((a : Attr) → length a.value + length a.pad ≡ padded (length a.value) → answer (write b (zeros 65528)) 0 a ≡ Err (by 25))
longest b h = at 65528 refl (omega arith) refl
  where
    size : (n : ℕ) → length (bytes_of (zeros n)) ≡ 20 + (4 + n)
    size n = bytes_length (zeros n) refl ∙ ap (λ (x : ℕ). 20 + x) (zeros_body n)

    at : (n : ℕ) → n % 4 ≡ 0 → n ≤ 65528 → n ≡ 65528
        → (said b (zeros n) ≡ Ok 65552)
        × ((a : Attr) → length a.value + length a.pad ≡ padded (length a.value) → answer (write b (zeros n)) 0 a ≡ Err (by 25))
    at n e l q =
        let w : Shaped (zeros n) = zeros_shaped n e l in
        let r : length (bytes_of (zeros n)) ≤ length b = omega (arith, size n) in
        let f : length (all_bytes (zeros n).attributes) ≡ 65532 = let x : 4 + n ≡ 65532 = omega arith in zeros_body n ∙ x in
        (full_written b (zeros n) w f r ∙ ap (λ (x : ℕ). Ok x) (let x : 20 + (4 + n) ≡ 65552 = omega arith in size n ∙ x), full_refused b (zeros n) w f r)
