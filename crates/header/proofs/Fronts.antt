-- What `front_of` and `header_of` return, case by case.
use Rattle.std.specs.Prelude.{ℕ, ◌+◌, ◌≤◌, ◌<◌, List, Bool, true, false, ◌≡◌, refl, length, ltb, eqb, Result, Ok, Err}
use Rattle.std.proofs.Common.{sym, ap, ◌∙◌, arith, lt-ltb, le-ltb, ltb-true, ltb-false, le-leb, eq-eqb, ne_eqb}
use borrow.Author.Tests.{lt-leb}
use Rattle.base.specs.Choice.{pick}
use Rattle.big_endian.specs.Numbers.{be16}
use Rattle.cookie.specs.Cookie.{cookie_at}
use Rattle.wire.specs.Refusal.{by}
use Rattle.wire.specs.TypeNumber.{class_of, method_of, class_numbered, type_from}
use Rattle.wire.specs.declared.refusal.Refusal.{Refusal}
use Rattle.wire.specs.declared.transaction_id.TransactionId.{TransactionId}
use Rattle.wire.specs.declared.types.MessageType.{MessageType}
use Rattle.header.specs.Header.{front_fault, header_fault, id_of, told, answer, front_of, header_of}
use Rattle.header.specs.HeaderLaws.{Front, front_said, NoFront, front_refused}
use Rattle.header.specs.declared.Header.{Header}

-- a type number that is taken, and one that is refused
made : ℕ → MessageType
made n = record { class = class_numbered (class_of n); method = record { code = method_of n } }

record Taken (n : ℕ) (t : MessageType) : Type 0 where
  small : n < 16384
  type : t ≡ made n

taken : {n : ℕ} {t : MessageType} {w : Result MessageType Refusal} → w ≡ type_from n → w ≡ Ok t → Taken n t
unfolding type_from made
taken {n} {t} {w} e f = go (ltb n 16384) refl (sym e ∙ f)
  where
    go : (b : Bool) → ltb n 16384 ≡ b → ◌≡◌ {A = Result MessageType Refusal} (pick b (Ok (made n)) (Err (by 2))) (Ok t) → Taken n t
    go true p q = record { small = ltb-true n 16384 p; type = cc }
    go false p q = let z : ◌≡◌ {A = ℕ} 0 1 = cc in absurd (omega arith)

record Top (n : ℕ) (r : Refusal) : Type 0 where
  large : 16384 ≤ n
  refusal : r ≡ by 2

top : {n : ℕ} {r : Refusal} {w : Result MessageType Refusal} → w ≡ type_from n → w ≡ Err r → Top n r
unfolding type_from made
top {n} {r} {w} e f = go (ltb n 16384) refl (sym e ∙ f)
  where
    go : (b : Bool) → ltb n 16384 ≡ b → ◌≡◌ {A = Result MessageType Refusal} (pick b (Ok (made n)) (Err (by 2))) (Err r) → Top n r
    go true p q = let z : ◌≡◌ {A = ℕ} 0 1 = cc in absurd (omega arith)
    go false p q = record { large = ltb-false n 16384 p; refusal = cc }

-- the number decides the answer
by_number : (k : ℕ) (d : List ℕ) → front_fault d ≡ k → answer k d ≡ front_of d
unfolding front_of
by_number k d e = ap (λ (n : ℕ). answer n d) (sym e)

pub front_1 : (d : List ℕ) → length d < 20 → Err (by 1) ≡ front_of d
unfolding front_fault answer
front_1 d h = by_number 1 d (simp (lt-ltb (length d) 20 h))

module _ (d : List ℕ) {n : ℕ} {w : Result MessageType Refusal} (h : 20 ≤ length d) (e : n ≡ be16 d 0) (f : w ≡ type_from n) where
  pub front_2 : {r : Refusal} → w ≡ Err r → Err r ≡ front_of d
  unfolding front_fault answer
  front_2 {r} g =
      let t : Top n r = top f g in
      ap (λ (r : Refusal). Err r) t.refusal ∙ by_number 2 d (simp (le-ltb (length d) 20 h, le-leb 16384 (be16 d 0) (omega (arith, t.large))))

  module _ {t : MessageType} {q : Bool} (g : w ≡ Ok t) (c : q ≡ cookie_at d 4) where
    pub front_3 : q ≡ false → Err (by 3) ≡ front_of d
    unfolding front_fault answer
    front_3 k =
        by_number 3 d
        (simp (le-ltb (length d) 20 h, lt-leb 16384 (be16 d 0) (omega (arith, (taken f g).small)), sym c ∙ k))

    pub front_0 : {b : ℕ} {i : TransactionId} → q ≡ true → b ≡ be16 d 2 → i.bytes ≡ id_of d
        → Ok (record { class = t.class; method = t.method; body = b; id = i }) ≡ front_of d
    unfolding front_fault answer told made
    front_0 {b} {i} k s j =
        rw ((taken f g).type, s, e) (ap (λ (x : List ℕ). Ok (record { class = (told d).class; method = (told d).method; body = (told d).body; id = record { bytes = x } })) j)
        ∙ by_number 0 d (simp (le-ltb (length d) 20 h, lt-leb 16384 (be16 d 0) (omega (arith, (taken f g).small)), sym c ∙ k))

module _ (d : List ℕ) {w : Result Header Refusal} (e : w ≡ front_of d) where
  pub header_front : {r : Refusal} → w ≡ Err r → Err r ≡ header_of d
  unfolding header_of header_fault answer
  header_front {r} f =
      let n : NoFront d r = front_refused d (sym e ∙ f) in
      ap (λ (r : Refusal). Err r) n.refusal ∙ simp (ne_eqb (front_fault d) 0 n.some)

  module _ {h : Header} (f : w ≡ Ok h) where
    front : Front d h
    front = front_said d (sym e ∙ f)

    by_size : (k : ℕ) → pick (eqb (length d) (20 + be16 d 2)) 0 4 ≡ k → answer k d ≡ header_of d
    unfolding header_of header_fault
    by_size k p = ap (λ (n : ℕ). answer n d) (sym (rw front.fault p))

    sized : length d ≡ 20 + h.body → length d ≡ 20 + be16 d 2
    unfolding told
    sized s = s ∙ ap (λ (h : Header). 20 + h.body) front.header

    pub header_0 : length d ≡ 20 + h.body → Ok h ≡ header_of d
    unfolding answer
    header_0 s = ap (λ (h : Header). Ok h) front.header ∙ by_size 0 (rw (eq-eqb (length d) (20 + be16 d 2) (sized s)))

    pub header_4 : (length d ≡ 20 + h.body → ⊥) → Err (by 4) ≡ header_of d
    unfolding answer told
    header_4 s = by_size 4 (rw (ne_eqb (length d) (20 + be16 d 2) (λ q. s (q ∙ ap (λ (h : Header). 20 + h.body) (sym front.header)))))
