-- A buffer that starts with a message: what the checks find there, and what one more attribute makes of it.
use Prim.Native.Nat.{ℕ, ◌+◌, ◌*◌, ◌/◌, ◌%◌, ◌≤◌, ◌<◌}
use mathlib.Core.List.{List, [], ◌∷◌, ◌++◌, append_assoc, append-nil}
use Rattle.std.specs.Prelude.{Bool, ◌≡◌, take, Ok}
use Rattle.std.proofs.Math.Path.{refl, sym, ap, ap₂}
use Rattle.std.proofs.Common.{◌∙◌, le-ltb, take_at, drop_at}
use native.Mathlib.Omega.{arith}
use Rattle.std.proofs.lemmas.Bool.{lt-leb}
use Rattle.std.proofs.Math.ListN.{length, drop, length-append}
use Rattle.std.proofs.Math.Seq.{drop-append-add}
use Rattle.base.specs.Choice.{pick}
use Rattle.base.specs.Same.{same}
use Rattle.base.specs.LaidLaws.{laid_is}
use Rattle.base.specs.Laid.{laid}
use Rattle.big_endian.specs.Numbers.{be16, two}
use Rattle.cookie.specs.Cookie.{cookie_at}
use Rattle.header.specs.Header.{front_fault}
use Rattle.attribute.specs.Attribute.{padded, Attr, rest, parse, bytes_of, all_bytes}
use Rattle.attribute.specs.Good.{Good, Goods}
use Rattle.attribute.proofs.RoundTripLaws.{decode_all_bytes}
use Rattle.write_begin.specs.Begin.{head_bytes}
use Rattle.write_plan.specs.Plan.{size_of, message_fault, body_with}
use Rattle.write_plan.proofs.PlanLaws.{message_is, goes, plan_is}
use Rattle.write_raw.specs.Append.{answered, written, plan_for, answer, appended}

-- the header of a buffer
module _ (t n : ℕ) (id s : List ℕ) (il : length id ≡ 12) where
  pub head_length : length (head_bytes t n id) ≡ 20
  unfolding head_bytes
  head_length = omega arith

  pub head_size : n < 65536 → be16 (head_bytes t n id ++ s) 2 ≡ n
  unfolding head_bytes be16
  head_size h = omega arith

  pub head_type : be16 (head_bytes t n id ++ s) 0 ≡ t
  unfolding head_bytes be16
  head_type = omega arith

  pub head_fault : t < 16384 → front_fault (head_bytes t n id ++ s) ≡ 0
  unfolding front_fault cookie_at same head_bytes be16
  head_fault h =
      let l : 20 ≤ length (head_bytes t n id ++ s) = simp length-append (omega arith) in
      simp (lt-leb 16384 (t / 256 * 256 + t % 256) (omega arith))
      (ap (λ (q : Bool). pick {A = ℕ} q 1 0) (le-ltb (length (head_bytes t n id ++ s)) 20 l))

  pub head_body : drop 20 (head_bytes t n id ++ s) ≡ s
  head_body = drop_at (head_bytes t n id) s 20 head_length

  -- another number in the length field
  pub head_again : (b : ℕ) → laid (head_bytes t n id ++ s) 2 (two b) ≡ head_bytes t b id ++ s
  unfolding laid head_bytes
  head_again b = refl

-- a buffer that starts with the message of type t with the attributes xs
unfoldable pub front : ℕ → List ℕ → List Attr → List ℕ
front t id xs = head_bytes t (length (all_bytes xs)) id ++ all_bytes xs

pub all_append : (xs ys : List Attr) → all_bytes (xs ++ ys) ≡ all_bytes xs ++ all_bytes ys
all_append [] ys = refl
all_append (a ∷ xs) ys = ap (λ (s : List ℕ). bytes_of a ++ s) (all_append xs ys) ∙ sym (append_assoc (bytes_of a) (all_bytes xs) (all_bytes ys))

pub all_one : (xs : List Attr) (a : Attr) → length (all_bytes (xs ++ (a ∷ []))) ≡ length (all_bytes xs) + length (bytes_of a)
all_one xs a =
    ap length (all_append xs (a ∷ []) ∙ ap (λ (u : List ℕ). all_bytes xs ++ u) (append-nil (bytes_of a))) ∙ length-append (all_bytes xs) (bytes_of a)

pub goods_one : (xs : List Attr) (a : Attr) → Goods xs → Good a → Goods (xs ++ (a ∷ []))
goods_one [] a g h = (h, tt)
goods_one (b ∷ xs) a g h = (g.0, goods_one xs a g.1 h)

pub attr_length : (a : Attr) → Good a → length (bytes_of a) ≡ 4 + padded (length a.value)
attr_length a g = simp length-append (omega (arith, g.padding))

module _ (t : ℕ) (id : List ℕ) (xs : List Attr) (r : List ℕ) (ht : t < 16384) (il : length id ≡ 12) (g : Goods xs) (small : length (all_bytes xs) ≤ 65532) where
  abbrev n : ℕ
  n = length (all_bytes xs)

  abbrev d : List ℕ
  d = front t id xs ++ r

  whole : d ≡ head_bytes t n id ++ (all_bytes xs ++ r)
  unfolding front
  whole = append_assoc (head_bytes t n id) (all_bytes xs) r

  front_length : length (front t id xs) ≡ 20 + n
  unfolding front
  front_length = simp (length-append, head_length t n id [] il)

  pub body_is : be16 d 2 ≡ n
  body_is = ap (λ (s : List ℕ). be16 s 2) whole ∙ head_size t n id (all_bytes xs ++ r) il (omega arith)

  size_is : size_of d ≡ 20 + n
  size_is = ap (λ (k : ℕ). 20 + k) body_is

  at_front : take (size_of d) d ≡ front t id xs
  at_front = ap (λ (k : ℕ). take k d) size_is ∙ take_at (front t id xs) r (20 + n) front_length

  d_length : length d ≡ 20 + n + length r
  d_length = simp (length-append, front_length)

  pub is_message : message_fault d ≡ 0
  unfolding front
  is_message =
      message_is d
      (record {
        front = ap front_fault whole ∙ head_fault t n id (all_bytes xs ++ r) il ht;
        inside = omega (arith, size_is, d_length);
        covered =
            ap (λ (s : List ℕ). rest (parse 0 (drop 20 s))) at_front
            ∙ ap (λ (s : List ℕ). rest (parse 0 s)) (head_body t n id (all_bytes xs) il)
            ∙ (decode_all_bytes xs g).1;
      })

  module _ (a : Attr) (ga : Good a) (few : n + length (bytes_of a) ≤ 65532) (room : length (bytes_of a) ≤ length r) where
    step_plan : plan_for d 0 a ≡ Ok (record { at = 20 + n; body = n + length (bytes_of a); total = 20 + (n + length (bytes_of a)) })
    unfolding plan_for
    step_plan =
        let b : body_with d (length a.value) ≡ n + length (bytes_of a) = omega (arith, body_is, attr_length a ga) in
        let l : length d ≡ 20 + n + length r = d_length in
        sym (plan_is (goes is_message refl ga.padding (omega arith) (omega arith)))
        ∙ rw (b, size_is)

    -- one attribute more
    pub step_answer : answer d 0 a ≡ Ok (20 + length (all_bytes (xs ++ (a ∷ []))))
    unfolding answer answered
    step_answer = rw step_plan (ap (λ (k : ℕ). Ok (20 + k)) (sym (all_one xs a)))

    pub step_buffer : appended d 0 a ≡ front t id (xs ++ (a ∷ [])) ++ drop (length (bytes_of a)) r
    unfolding appended written front
    step_buffer =
        let e : List ℕ = bytes_of a in
        let m : ℕ = n + length e in
        let s : List ℕ = drop (length e) r in
        let f : List ℕ = front t id xs in
        let lay : laid d (20 + n) e ≡ f ++ e ++ s =
        laid_is d (20 + n) e (omega (arith, d_length))
        ∙ ap₂ {C = List ℕ} (λ u v. u ++ e ++ v)
        (take_at f r (20 + n) front_length)
        (ap (λ (k : ℕ). drop (k + length e) (f ++ r)) (sym front_length) ∙ drop-append-add f r (length e))
        in
        let group : f ++ e ++ s ≡ head_bytes t n id ++ (all_bytes xs ++ e ++ s) =
        append_assoc f e s ∙ append_assoc (head_bytes t n id) (all_bytes xs) (e ++ s)
        ∙ ap (λ (u : List ℕ). head_bytes t n id ++ u) (sym (append_assoc (all_bytes xs) e s))
        in
        let all : all_bytes xs ++ e ≡ all_bytes (xs ++ (a ∷ [])) = sym (all_append xs (a ∷ []) ∙ ap (λ (u : List ℕ). all_bytes xs ++ u) (append-nil e)) in
        rw step_plan
        (ap (λ (u : List ℕ). laid u 2 (two m)) (lay ∙ group) ∙ head_again t n id (all_bytes xs ++ e ++ s) il m
        ∙ ap₂ (λ (k : ℕ) (u : List ℕ). head_bytes t k id ++ (u ++ s)) (sym (all_one xs a)) all
        ∙ sym (append_assoc (head_bytes t (length (all_bytes (xs ++ (a ∷ [])))) id) (all_bytes (xs ++ (a ∷ []))) s))
