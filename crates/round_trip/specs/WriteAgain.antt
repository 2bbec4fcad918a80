-- A message within the rules, written into a buffer that has room for it, is its bytes, and what stood behind them stays.
use Prim.Native.Nat.{ℕ, ◌+◌, ◌≤◌, ◌<◌}
use mathlib.Core.List.{List, [], ◌∷◌, ◌++◌, append_assoc, append-nil}
use Rattle.std.specs.Prelude.{◌≡◌, refl, take, Ok, Result}
use Rattle.std.proofs.Common.{sym, ◌∙◌, length-append, drop-drop, take_at}
use Rattle.std.proofs.Math.Path.{ap, ap₂}
use native.Mathlib.Omega.{arith}
use borrow.Author.Tests.{lt-ltb, le-ltb}
use Rattle.std.proofs.Math.ListN.{length, drop, length-drop}
use Rattle.base.specs.LaidLaws.{laid_is}
use Rattle.wire.specs.TypeNumber.{type_of, class_number}
use Rattle.wire.specs.TypeLaws.{type_below, class_small}
use Rattle.attribute.specs.Attribute.{Attr, all_bytes}
use Rattle.attribute.specs.Attribute as one
use Rattle.attribute.specs.Good.{Goods}
use Rattle.write_begin.specs.Begin.{head_bytes, begin_fault, begun, beginning}
use Rattle.wire.specs.declared.refusal.Refusal.{Refusal}
use Rattle.write_raw.specs.Append.{answer}
use Rattle.round_trip.specs.Message.{Message, bytes_of, Shaped, write_from, said_from, write, said}
use Rattle.round_trip.specs.FrontLaws.{head_length, front, all_one, goods_one, step_answer, step_buffer}

module _ (t : ℕ) (id : List ℕ) (ht : t < 16384) (il : length id ≡ 12) where
  -- the attributes ys behind a message with the attributes xs
  more_buffer : (xs ys : List Attr) (r : List ℕ) → Goods xs → Goods ys → length (all_bytes xs) + length (all_bytes ys) ≤ 65532
      → length (all_bytes ys) ≤ length r
      → write_from (front t id xs ++ r) ys ≡ front t id (xs ++ ys) ++ drop (length (all_bytes ys)) r
  more_buffer xs [] r g h few room = ap (λ (l : List Attr). front t id l ++ r) (sym (append-nil xs))
  more_buffer xs (a ∷ ys) r g h few room =
      let e : List ℕ = one.bytes_of a in
      let l : length (e ++ all_bytes ys) ≡ length e + length (all_bytes ys) = length-append e (all_bytes ys) in
      let m : length (all_bytes (xs ++ (a ∷ []))) ≡ length (all_bytes xs) + length e = all_one xs a in
      ap (λ (b : List ℕ). write_from b ys) (step_buffer t id xs r ht il g (omega arith) a h.0 (omega arith) (omega arith))
      ∙ more_buffer (xs ++ (a ∷ [])) ys (drop (length e) r) (goods_one xs a g h.0) h.1 (omega arith) (simp length-drop (omega arith))
      ∙ ap₂ (λ (s : List Attr) (u : List ℕ). front t id s ++ u) (append_assoc xs (a ∷ []) ys) (drop-drop (length (all_bytes ys)) (length e) r ∙ ap (λ (k : ℕ). drop k r) (sym l))

  more_said : (xs ys : List Attr) (r : List ℕ) (w : Result ℕ Refusal) → w ≡ Ok (20 + length (all_bytes xs)) → Goods xs → Goods ys
      → length (all_bytes xs) + length (all_bytes ys) ≤ 65532 → length (all_bytes ys) ≤ length r
      → said_from w (front t id xs ++ r) ys ≡ Ok (20 + length (all_bytes (xs ++ ys)))
  more_said xs [] r w q g h few room = q ∙ ap (λ (l : List Attr). Ok (20 + length (all_bytes l))) (sym (append-nil xs))
  more_said xs (a ∷ ys) r w q g h few room =
      let e : List ℕ = one.bytes_of a in
      let l : length (e ++ all_bytes ys) ≡ length e + length (all_bytes ys) = length-append e (all_bytes ys) in
      let m : length (all_bytes (xs ++ (a ∷ []))) ≡ length (all_bytes xs) + length e = all_one xs a in
      ap (λ (b : List ℕ). said_from (answer (front t id xs ++ r) 0 a) b ys) (step_buffer t id xs r ht il g (omega arith) a h.0 (omega arith) (omega arith))
      ∙ more_said (xs ++ (a ∷ [])) ys (drop (length e) r) (answer (front t id xs ++ r) 0 a)
      (step_answer t id xs r ht il g (omega arith) a h.0 (omega arith) (omega arith))
      (goods_one xs a g h.0) h.1 (omega arith) (simp length-drop (omega arith))
      ∙ ap (λ (s : List Attr). Ok (20 + length (all_bytes s))) (append_assoc xs (a ∷ []) ys)

pub bytes_length : (m : Message) → length m.id.bytes ≡ 12 → length (bytes_of m) ≡ 20 + length (all_bytes m.attributes)
unfolding bytes_of
bytes_length m e =
    simp (length-append, head_length (type_of (class_number m.class) m.method.code) (length (all_bytes m.attributes)) m.id.bytes [] e)

module _ (d : List ℕ) (m : Message) (w : Shaped m) (room : length (bytes_of m) ≤ length d) where
  type : ℕ
  type = type_of (class_number m.class) m.method.code

  small : type < 16384
  unfolding type
  small = type_below (class_number m.class) m.method.code (class_small m.class) w.method

  size : length (bytes_of m) ≡ 20 + length (all_bytes m.attributes)
  size = bytes_length m w.id

  no_fault : begin_fault d m.method.code ≡ 0
  unfolding begin_fault
  no_fault = simp (lt-ltb m.method.code 4096 w.method, le-ltb (length d) 20 (omega (arith, size)))

  started : beginning d m.class m.method m.id ≡ front type m.id.bytes [] ++ drop 20 d
  unfolding beginning front type
  started =
      let h : List ℕ = head_bytes (type_of (class_number m.class) m.method.code) 0 m.id.bytes in
      let k : length h ≡ 20 = head_length (type_of (class_number m.class) m.method.code) 0 m.id.bytes [] w.id in
      let l : 0 + length h ≡ 20 = omega arith in
      rw no_fault
      (laid_is d 0 h (omega (arith, size)) ∙ ap₂ (λ (u : List ℕ) (k : ℕ). u ++ drop k d) (sym (append-nil h)) l)

  first : begun d m.method ≡ Ok 20
  unfolding begun
  first = rw no_fault

  -- WRITTEN: the whole buffer
  pub written : write d m ≡ bytes_of m ++ drop (length (bytes_of m)) d
  unfolding bytes_of front type
  written =
      let n : ℕ = length (all_bytes m.attributes) in
      ap (λ (b : List ℕ). write_from b m.attributes) started
      ∙ more_buffer type m.id.bytes small w.id [] m.attributes (drop 20 d) tt w.attributes (omega (arith, w.body)) (simp length-drop (omega (arith, size)))
      ∙ ap (λ (u : List ℕ). bytes_of m ++ u) (drop-drop n 20 d ∙ ap (λ (k : ℕ). drop k d) (sym size))

  -- and the last answer is the message's size
  pub answers : said d m ≡ Ok (length (bytes_of m))
  answers =
      ap (λ (b : List ℕ). said_from (begun d m.method) b m.attributes) started
      ∙ more_said type m.id.bytes small w.id [] m.attributes (drop 20 d) (begun d m.method) first tt w.attributes (omega (arith, w.body)) (simp length-drop (omega (arith, size)))
      ∙ ap (λ (k : ℕ). Ok k) (sym size)

  pub front_written : take (length (bytes_of m)) (write d m) ≡ bytes_of m
  front_written = ap (take (length (bytes_of m))) written ∙ take_at (bytes_of m) (drop (length (bytes_of m)) d) (length (bytes_of m)) refl
