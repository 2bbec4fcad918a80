-- Above 65,555 bytes a datagram is read as its first 65,556 bytes are, or any more of them: it is refused by 2 or 3, or by 4,
-- since no length field reaches so far. Under any list of types.
use Rattle.std.specs.Prelude.{ℕ, ◌+◌, ◌-◌, ◌≤◌, ◌<◌, List, ◌≡◌, drop}
use Rattle.std.proofs.Math.Path.{sym, ap}
use Rattle.std.proofs.Common.{◌∙◌, arith}
use borrow.Author.Tests.{ne_eqb, le-ltb}
use Rattle.std.proofs.Math.ListN.{length, take, length-take}
use Rattle.std.proofs.Math.Seq.{get_or-take, take-take, length-take-le}
use Rattle.std.proofs.Math.Dec.{ltb}
use Rattle.base.specs.BytesLaws.{byte_at}
use Rattle.base.specs.Bytes.{Bytes}
use Rattle.base.specs.ListLaws.{drop-take}
use Rattle.big_endian.specs.Numbers.{be16}
use Rattle.cookie.specs.Cookie.{cookie_at}
use Rattle.header.specs.Header.{front_fault, header_fault}
use Rattle.header.specs.HeaderLaws.{sized}
use Rattle.registry.specs.declared.Row.{Row}
use Rattle.read_message.specs.Reading.{reading_of}

module _ (d : List ℕ) (n : ℕ) (h : 65556 ≤ n) (l : n ≤ length d) where
  be16_same : (p : ℕ) → p + 2 ≤ n → be16 (take n d) p ≡ be16 d p
  unfolding be16
  be16_same p k = rw (get_or-take n d p 0 (omega arith), get_or-take n d (p + 1) 0 (omega arith))

  front_same : front_fault (take n d) ≡ front_fault d
  unfolding front_fault cookie_at
  front_same =
      let s : take 4 (drop 4 (take n d)) ≡ take 4 (drop 4 d) = ap (take 4) (drop-take 4 n d) ∙ take-take 4 (n - 4) (drop 4 d) (omega arith) in
      let a : ltb (length (take n d)) 20 ≡ ltb (length d) 20 =
      le-ltb (length (take n d)) 20 (simp length-take (omega arith)) ∙ sym (le-ltb (length d) 20 (omega arith))
      in
      rw (a, be16_same 0 (omega arith), s)

  module _ (b : Bytes d) where
    short : be16 d 2 < 65536
    unfolding be16
    short = omega (arith, byte_at d 2 b, byte_at d 3 b)

    refused : header_fault d ≡ 0 → ⊥
    refused e = omega (arith, sized d e, short)

    fault_same : header_fault (take n d) ≡ header_fault d
    unfolding header_fault
    fault_same =
        let e : length (take n d) ≡ n = length-take-le n d l in
        let f : be16 (take n d) 2 ≡ be16 d 2 = be16_same 2 (omega arith) in
        let p : length (take n d) ≡ 20 + be16 (take n d) 2 → ⊥ = λ x. omega (arith, x, e, f, short) in
        let q : length d ≡ 20 + be16 d 2 → ⊥ = λ x. omega (arith, x, short) in
        rw (front_same, ne_eqb (length (take n d)) (20 + be16 (take n d) 2) p, ne_eqb (length d) (20 + be16 d 2) q)

    pub read_as_its_front : (rows : List Row) → reading_of rows (take n d) ≡ reading_of rows d
    unfolding reading_of
    read_as_its_front rows = rw (fault_same, ne_eqb (header_fault d) 0 refused)
