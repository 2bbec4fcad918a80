-- An attribute appended is read behind what was there: class, method, ID and the earlier attributes as before, the new one as given. This shuts
-- out a writer that changes nothing or spoils what stood there, and a walk that reads one attribute and then says end.
use Rattle.write_plan.specs.declared.Room.{Room}
use Prim.Native.Nat.{ℕ, ◌+◌, ◌≤◌, ◌<◌}
use mathlib.Core.List.{List, [], ◌∷◌, ◌++◌}
use Rattle.std.specs.Prelude.{◌≡◌, Ok}
use Rattle.std.proofs.Math.Path.{sym, ap, ap₂, subst}
use Rattle.std.proofs.Common.{◌∙◌, arith, length-append, length-take-le}
use Rattle.std.proofs.Math.ListN.{length, take, drop, length-drop, take-append-drop}
use Rattle.std.proofs.Math.Seq.{take_at}
use Rattle.base.specs.BytesLaws.{take-bytes}
use Rattle.base.specs.Bytes.{Bytes}
use Rattle.big_endian.specs.Numbers.{be16}
use Rattle.wire.specs.TypeNumber.{type_of, class_number}
use Rattle.wire.specs.TypeLaws.{type_below, class_small}
use Rattle.header.specs.HeaderLaws.{unrefused, take-be16, take-front}
use Rattle.attribute.specs.Attribute.{padded, Attr, all_bytes}
use Rattle.attribute.specs.Attribute as one
use Rattle.attribute.specs.Good.{Good}
use Rattle.attribute.specs.Visits.{Visits, placed}
use Rattle.attribute.proofs.CoverLaws.{placed_one, visits, visits_one}
use Rattle.write_plan.specs.Plan.{size_of}
use Rattle.write_plan.proofs.PlanLaws.{Going, message}
use Rattle.write_plan.proofs.PlanLaws as plan
use Rattle.write_raw.specs.Append.{answer, appended}
use Rattle.write_raw.specs.AppendLaws.{total_goes}
use Rattle.round_trip.specs.Message.{Message, bytes_of, message_of, Shaped, Sound, with, held}
use Rattle.round_trip.specs.FrontLaws.{head_length, front, all_one, goods_one, attr_length, step_buffer}
use Rattle.round_trip.specs.Bijection.{bijection, read_written, header_again, covered_again}

module _ (d : List ℕ) (h : Bytes d) (mf : plan.Message d) where
  abbrev D : List ℕ
  D = take (size_of d) d

  D-length : length D ≡ size_of d
  D-length = length-take-le (size_of d) d mf.inside

  pub held_sound : Sound D
  held_sound = record {
    octets = take-bytes (size_of d) d h;
    header =
        unrefused D (take-front d mf.front (size_of d) (omega arith) mf.inside)
        (D-length ∙ ap (λ (x : ℕ). 20 + x) (sym (take-be16 d mf.front (size_of d) (omega arith) mf.inside 2 (omega arith))));
    covered = mf.covered;
  }

  pub held_shaped : Shaped (held d)
  held_shaped = (bijection.1 D held_sound).0.shape

  pub held_bytes : bytes_of (held d) ≡ D
  held_bytes = (bijection.1 D held_sound).1

  abbrev T : ℕ
  T = type_of (class_number (held d).class) (held d).method.code

  T-small : T < 16384
  T-small = type_below (class_number (held d).class) (held d).method.code (class_small (held d).class) held_shaped.method

  front_is : front T (held d).id.bytes (held d).attributes ≡ D
  unfolding bytes_of front
  front_is = held_bytes

  pub held_length : length (all_bytes (held d).attributes) ≡ be16 d 2
  unfolding bytes_of
  held_length =
      let x : length (bytes_of (held d)) ≡ 20 + length (all_bytes (held d).attributes) =
      simp (length-append, head_length T (length (all_bytes (held d).attributes)) (held d).id.bytes [] held_shaped.id)
      in
      omega (arith, x, ap length held_bytes, D-length)

module _ (d : List ℕ) (f : ℕ) (a : Attr) {t : ℕ} (h : Bytes d) (k : a.kind < 65536) (e : answer d f a ≡ Ok t) where
  plan_facts : (r : Room) × (r.total ≡ t) × Going d f (length a.value) (length a.pad) r
  plan_facts = total_goes d f a e

  g : Going d f (length a.value) (length a.pad) plan_facts.0
  g = plan_facts.2

  there : plan.Message d
  there = message d g.fault

  pub new_good : Good a
  new_good = record { kind_fits = k; size_fits = omega (arith, g); padding = g.pads }

  -- THE BYTES: the message at the front with one attribute more, and the total is its size
  pub appended_bytes : take t (appended d f a) ≡ bytes_of (with (held d) a)
  unfolding bytes_of front
  appended_bytes =
      let X : List Attr = (held d).attributes in
      let i : List ℕ = (held d).id.bytes in
      let r : List ℕ = drop (size_of d) d in
      let split : d ≡ front (T d h there) i X ++ r = sym (ap (λ (u : List ℕ). u ++ r) (front_is d h there) ∙ take-append-drop (size_of d) d) in
      let n : length (all_bytes X) ≡ be16 d 2 = held_length d h there in
      let l : length (one.bytes_of a) ≡ 4 + padded (length a.value) = attr_length a new_good in
      let room : length (one.bytes_of a) ≤ length r = simp length-drop (omega (arith, g)) in
      let few : length (all_bytes X) + length (one.bytes_of a) ≤ 65532 = omega (arith, g) in
      let s : appended (front (T d h there) i X ++ r) 0 a ≡ front (T d h there) i (X ++ (a ∷ [])) ++ drop (length (one.bytes_of a)) r =
      step_buffer (T d h there) i X r (T-small d h there) (held_shaped d h there).id (held_shaped d h there).attributes (omega (arith, g)) a new_good few room
      in
      let m : length (all_bytes (X ++ (a ∷ []))) ≡ length (all_bytes X) + length (one.bytes_of a) = all_one X a in
      let z : length (front (T d h there) i (X ++ (a ∷ []))) ≡ t =
      simp (length-append, head_length (T d h there) (length (all_bytes (X ++ (a ∷ [])))) i [] (held_shaped d h there).id) (omega (arith, g, plan_facts.1))
      in
      ap₂ (λ (y : ℕ) (u : List ℕ). take t (appended u y a)) g.right split ∙ ap (take t) s
      ∙ take_at (front (T d h there) i (X ++ (a ∷ []))) (drop (length (one.bytes_of a)) r) t z

  pub with_shaped : Shaped (with (held d) a)
  with_shaped =
      let w : Shaped (held d) = held_shaped d h there in
      let X : List Attr = (held d).attributes in
      let n : length (all_bytes X) ≡ be16 d 2 = held_length d h there in
      let l : length (one.bytes_of a) ≡ 4 + padded (length a.value) = attr_length a new_good in
      let m : length (all_bytes (X ++ (a ∷ []))) ≡ length (all_bytes X) + length (one.bytes_of a) = all_one X a in
      record { method = w.method; id = w.id; attributes = goods_one X a w.attributes new_good; body = omega (arith, g) }

  pub appended_message : message_of (take t (appended d f a)) ≡ with (held d) a
  appended_message = ap message_of appended_bytes ∙ read_written (with (held d) a) with_shaped

  -- APPENDED, AND READ: the walk visits the earlier attributes at their places, then the new one as it was given, then the end
  pub appended_read : (xs : List (ℕ × Attr)) → Visits (take (size_of d) d) 20 xs → Visits (take t (appended d f a)) 20 (xs ++ ((size_of d, a) ∷ []))
  unfolding message_of
  appended_read xs v =
      let s : Sound (take (size_of d) d) = held_sound d h there in
      let m : Message = with (held d) a in
      let before : xs ≡ placed 20 (held d).attributes = visits_one v (visits (take (size_of d) d) s.header s.covered) in
      let size : 20 + length (all_bytes (held d).attributes) ≡ size_of d = ap (λ (x : ℕ). 20 + x) (held_length d h there) in
      let all : placed 20 (message_of (bytes_of m)).attributes ≡ xs ++ ((size_of d, a) ∷ []) =
      ap (λ (y : Message). placed 20 y.attributes) (read_written m with_shaped) ∙ placed_one 20 (held d).attributes a
      ∙ ap₂ (λ (ys : List (ℕ × Attr)) (q : ℕ). ys ++ ((q, a) ∷ [])) (sym before) size
      in
      let w : Visits (bytes_of m) 20 (placed 20 (message_of (bytes_of m)).attributes) = visits (bytes_of m) (header_again m with_shaped) (covered_again m with_shaped) in
      subst (λ (y : List ℕ). Visits y 20 (xs ++ ((size_of d, a) ∷ []))) (sym appended_bytes)
      (subst (λ (ys : List (ℕ × Attr)). Visits (bytes_of m) 20 ys) all w)
