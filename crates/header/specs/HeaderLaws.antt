-- What the checks of a header answer.
use Rattle.std.specs.Prelude.{ℕ, ◌+◌, ◌-◌, ◌≤◌, ◌<◌, List, Bool, true, false, ◌≡◌, refl, length, drop, eqb, leb, Result, Ok, Err}
use Rattle.std.proofs.Math.Path.{sym, ap}
use Rattle.std.proofs.Common.{◌∙◌, arith, eqb-true, eq-eqb, ltb-false, leb-false, le-ltb}
use borrow.Author.Tests.{eqb-false}
use Rattle.std.proofs.Math.ListN.{take, length-take}
use Rattle.std.proofs.Math.Seq.{get_or-take, take-take}
use Rattle.std.proofs.Math.Dec.{ltb}
use Rattle.base.specs.Choice.{pick}
use Rattle.base.specs.ListLaws.{drop-take}
use Rattle.big_endian.specs.Numbers.{be16}
use Rattle.cookie.specs.Cookie.{cookie_at}
use Rattle.wire.specs.Refusal.{by, result_said}
use Rattle.wire.specs.declared.refusal.Refusal.{Refusal}
use Rattle.header.specs.declared.Header.{Header}
use Rattle.header.specs.Header.{front_fault, header_fault, header_said, told, answer, front_of, header_of}

answer_number : (n : ℕ) (d : List ℕ) → (header_said (answer n d)).number ≡ n
unfolding result_said header_said answer
answer_number n d = go (eqb n 0) refl
  where
    go : (b : Bool) → eqb n 0 ≡ b → (header_said (pick b (Ok (told d)) (Err (by n)))).number ≡ n
    go true e = sym (eqb-true n 0 e)
    go false e = refl

-- the number that a call answers is the first check that applies
pub front_number : (d : List ℕ) → (header_said (front_of d)).number ≡ front_fault d
unfolding front_of
front_number d = answer_number (front_fault d) d

pub header_number : (d : List ℕ) → (header_said (header_of d)).number ≡ header_fault d
unfolding header_of
header_number d = answer_number (header_fault d) d

-- what an answer comes from: no fault and what the bytes say, or the fault
record Given (n : ℕ) (d : List ℕ) (h : Header) : Type 0 where
  none : n ≡ 0
  header : h ≡ told d

given : (n : ℕ) (d : List ℕ) {h : Header} → answer n d ≡ Ok h → Given n d h
unfolding answer
given n d {h} e = go (eqb n 0) refl e
  where
    go : (b : Bool) → eqb n 0 ≡ b → ◌≡◌ {A = Result Header Refusal} (pick b (Ok (told d)) (Err (by n))) (Ok h) → Given n d h
    go true p q = record { none = eqb-true n 0 p; header = cc }
    go false p q = let z : ◌≡◌ {A = ℕ} 0 1 = cc in absurd (omega arith)

record Withheld (n : ℕ) (r : Refusal) : Type 0 where
  some : n ≡ 0 → ⊥
  refusal : r ≡ by n

withheld : (n : ℕ) (d : List ℕ) {r : Refusal} → answer n d ≡ Err r → Withheld n r
unfolding answer
withheld n d {r} e = go (eqb n 0) refl e
  where
    go : (b : Bool) → eqb n 0 ≡ b → ◌≡◌ {A = Result Header Refusal} (pick b (Ok (told d)) (Err (by n))) (Err r) → Withheld n r
    go true p q = let z : ◌≡◌ {A = ℕ} 0 1 = cc in absurd (omega arith)
    go false p q = record { some = eqb-false n 0 p; refusal = cc }

-- what the header of a datagram that isn't refused says
pub record GoodHead (d : List ℕ) (h : Header) : Type 0 where
  pub fault : header_fault d ≡ 0
  pub header : h ≡ told d

pub good_head : (d : List ℕ) {h : Header} → header_of d ≡ Ok h → GoodHead d h
unfolding header_of
good_head d e = let g = given (header_fault d) d e in record { fault = g.none; header = g.header }

-- and one that is refused
pub record Not (d : List ℕ) (r : Refusal) : Type 0 where
  pub some : header_fault d ≡ 0 → ⊥
  pub refusal : r ≡ by (header_fault d)

pub refused : (d : List ℕ) {r : Refusal} → header_of d ≡ Err r → Not d r
unfolding header_of
refused d e = let w = withheld (header_fault d) d e in record { some = w.some; refusal = w.refusal }

-- what the front of a buffer says where it has a header
pub record Front (d : List ℕ) (h : Header) : Type 0 where
  pub fault : front_fault d ≡ 0
  pub header : h ≡ told d

pub front_said : (d : List ℕ) {h : Header} → front_of d ≡ Ok h → Front d h
unfolding front_of
front_said d e = let g = given (front_fault d) d e in record { fault = g.none; header = g.header }

pub record NoFront (d : List ℕ) (r : Refusal) : Type 0 where
  pub some : front_fault d ≡ 0 → ⊥
  pub refusal : r ≡ by (front_fault d)

pub front_refused : (d : List ℕ) {r : Refusal} → front_of d ≡ Err r → NoFront d r
unfolding front_of
front_refused d e = let w = withheld (front_fault d) d e in record { some = w.some; refusal = w.refusal }

-- what it is that no check refuses
pub record Checked (d : List ℕ) : Type 0 where
  pub long : 20 ≤ length d
  pub top : be16 d 0 < 16384
  pub magic : cookie_at d 4 ≡ true
  pub size : length d ≡ 20 + be16 d 2

pub checked : (d : List ℕ) → header_fault d ≡ 0 → Checked d
unfolding header_fault front_fault
checked d e = go (ltb (length d) 20) (leb 16384 (be16 d 0)) (cookie_at d 4) (eqb (length d) (20 + be16 d 2)) refl refl refl refl e
  where
    go : (a b c s : Bool) → ltb (length d) 20 ≡ a → leb 16384 (be16 d 0) ≡ b → cookie_at d 4 ≡ c → eqb (length d) (20 + be16 d 2) ≡ s
        → ◌≡◌ {A = ℕ} (pick (eqb (pick a 1 (pick b 2 (pick c 0 3))) 0) (pick s 0 4) (pick a 1 (pick b 2 (pick c 0 3)))) 0 → Checked d
    go false false true true p q r s f =
        record { long = ltb-false (length d) 20 p; top = leb-false 16384 (be16 d 0) q; magic = r; size = eqb-true (length d) (20 + be16 d 2) s }
    go true b c x p q r s f = absurd (omega arith)
    go false true c x p q r s f = absurd (omega arith)
    go false false false x p q r s f = absurd (omega arith)
    go false false true false p q r s f = absurd (omega arith)

pub long : (d : List ℕ) → header_fault d ≡ 0 → 20 ≤ length d
long d e = (checked d e).long

pub sized : (d : List ℕ) → header_fault d ≡ 0 → length d ≡ 20 + be16 d 2
sized d e = (checked d e).size

pub unrefused : (d : List ℕ) → front_fault d ≡ 0 → length d ≡ 20 + be16 d 2 → header_fault d ≡ 0
unfolding header_fault
unrefused d f s = simp (eq-eqb (front_fault d) 0 f, eq-eqb (length d) (20 + be16 d 2) s)

-- a header at the front that no check refuses, and the same of a shorter buffer that still has the header
module _ (d : List ℕ) (f : front_fault d ≡ 0) (n : ℕ) (h : 20 ≤ n) (l : n ≤ length d) where
  pub take-be16 : (p : ℕ) → p + 2 ≤ n → be16 (take n d) p ≡ be16 d p
  unfolding be16
  take-be16 p k = rw (get_or-take n d p 0 (omega arith), get_or-take n d (p + 1) 0 (omega arith))

  pub take-front : front_fault (take n d) ≡ 0
  unfolding front_fault cookie_at
  take-front =
      let s : take 4 (drop 4 (take n d)) ≡ take 4 (drop 4 d) = ap (take 4) (drop-take 4 n d) ∙ take-take 4 (n - 4) (drop 4 d) (omega arith) in
      let a : ltb (length (take n d)) 20 ≡ ltb (length d) 20 =
      le-ltb (length (take n d)) 20 (simp length-take (omega arith)) ∙ sym (le-ltb (length d) 20 (omega arith))
      in
      rw (a, take-be16 0 (omega arith), s) f
