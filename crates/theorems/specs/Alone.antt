-- Nothing holds for want of cases: a header alone, of every class, method and ID, is whole and has no attributes.
use Prim.Native.Nat.{ℕ, ◌*◌, ◌+◌, ◌/◌, ◌%◌, ◌<◌}
use mathlib.Core.List.{List, [], ◌++◌}
use Rattle.std.specs.Prelude.{◌≡◌, length, drop, Ok}
use Rattle.std.proofs.Math.Path.{refl}
use Rattle.std.proofs.Common.{ap, ◌∙◌, drop_of_length-le}
use native.Mathlib.Omega.{arith}
use borrow.Author.Tests.{eq-eqb, le-ltb, lt-leb}
use Rattle.std.proofs.Math.Seq.{take_all}
use Rattle.base.specs.Same.{same}
use Rattle.big_endian.specs.Numbers.{be16, two}
use Rattle.cookie.specs.Cookie.{cookie, cookie_at}
use Rattle.wire.specs.TypeNumber.{type_of, class_number}
use Rattle.wire.specs.TypeLaws.{class_back, method_back, type_below, class_small, class_numbered_lem}
use Rattle.wire.specs.declared.types.MessageClass.{MessageClass}
use Rattle.header.specs.Header.{front_fault, header_fault, id_of}
use Rattle.attribute.specs.Attribute.{stop, attrs, rest, parse}
use Rattle.attribute.proofs.BodyLaws.{parse_none}
use Rattle.registry.specs.declared.Row.{Row}
use Rattle.read_message.specs.Reading.{reading_of}
use Rattle.read_message.specs.Whole.{Whole, attributes}
use Rattle.read_message.proofs.WholeLaws.{Parts, parts_told, parts_whole}

-- the header of class c, method m and ID i, with body length 0
abbrev pub alone : MessageClass → ℕ → List ℕ → List ℕ
alone c m i = two (type_of (class_number c) m) ++ two 0 ++ cookie ++ i

module _ (c : MessageClass) (m : ℕ) (i : List ℕ) (h : m < 4096) (l : length i ≡ 12) where
  type_is : be16 (alone c m i) 0 ≡ type_of (class_number c) m
  unfolding be16
  type_is = num (type_of (class_number c) m)
    where
      num : (n : ℕ) → n / 256 * 256 + n % 256 ≡ n
      num n = omega arith

  body_is : be16 (alone c m i) 2 ≡ 0
  unfolding be16
  body_is = refl

  size_is : length (alone c m i) ≡ 20
  size_is = omega arith

  good : header_fault (alone c m i) ≡ 0
  unfolding header_fault front_fault cookie_at same
  good =
      let d : List ℕ = alone c m i in
      let t : be16 d 0 < 16384 = omega (arith, type_is, type_below (class_number c) m (class_small c) h) in
      simp (le-ltb (length d) 20 (omega (arith, size_is)), lt-leb 16384 (be16 d 0) t, eq-eqb (length d) (20 + be16 d 2) (omega (arith, size_is, body_is)))

  nothing : parse 0 (drop 20 (alone c m i)) ≡ stop []
  nothing = let e : drop 12 i ≡ [] = drop_of_length-le i {i = 12} (omega arith) in ap (parse 0) e ∙ parse_none

  pub alone_none : attributes (alone c m i) ≡ []
  alone_none = ap attrs nothing

  module _ (rows : List Row) where
    whole_parts : Parts rows (alone c m i)
    whole_parts = record { header = good; covered = ap rest nothing; values = rw alone_none tt; prints = rw alone_none tt }

    pub alone_whole : Whole rows (alone c m i)
    alone_whole = parts_whole rows (alone c m i) whole_parts

    pub alone_read : reading_of rows (alone c m i) ≡ Ok (record { class = c; method = record { code = m }; id = record { bytes = i }; attributes = Ok 0 })
    unfolding id_of
    alone_read = parts_told rows (alone c m i) whole_parts ∙ rw (type_is, class_back (class_number c) m (class_small c), method_back (class_number c) m (class_small c), class_numbered_lem c, alone_none, take_all 12 i (omega arith))
