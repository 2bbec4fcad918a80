-- The attributes of a whole datagram: they cover its body, the walk visits just them, their number is the one told, and it is at
-- most 16,383 (docs/SCOPE.md, "An attribute"). Under any list of types.
use Rattle.std.specs.Prelude.{ℕ, ◌+◌, ◌≤◌, List, ◌≡◌, length, drop}
use Rattle.std.proofs.Common.{ap, arith, length-drop}
use Rattle.base.specs.BytesLaws.{byte_at}
use Rattle.base.specs.Bytes.{Bytes}
use Rattle.big_endian.specs.Numbers.{be16}
use Rattle.wire.specs.declared.method.Method.{Method}
use Rattle.wire.specs.declared.types.MessageClass.{MessageClass}
use Rattle.header.specs.HeaderLaws.{sized}
use Rattle.attribute.specs.Attribute.{Attr, rest, parse}
use Rattle.attribute.specs.Visits.{sizes, Visits, placed}
use Rattle.attribute.proofs.CoverLaws.{sizes_rest, sizes_least, visits, visits_one}
use Rattle.registry.specs.declared.Row.{Row}
use Rattle.read_message.specs.Reading.{reading_of, answer_of}
use Rattle.read_message.specs.Whole.{Whole, attributes}
use Rattle.read_message.proofs.WholeLaws.{Parts, parts, told, told_whole}
use Rattle.read_message.specs.Reading as answer

module _ (rows : List Row) (d : List ℕ) (w : Whole rows d) where
  -- 4 plus the padded size, summed over the attributes, is the body length
  pub covers : sizes (attributes d) ≡ be16 d 2
  covers =
      let p : Parts rows d = parts rows d w in
      let e : sizes (attributes d) + length (rest (parse 0 (drop 20 d))) ≡ length (drop 20 d) = omega (arith, sizes_rest 0 (drop 20 d)) in
      omega (arith, simp length-drop at e, ap length p.covered, sized d p.header)

  -- the walk from place 20 to the end visits the attributes one behind the other, and no others
  pub visited : Visits d 20 (placed 20 (attributes d))
  visited = let p : Parts rows d = parts rows d w in visits d p.header p.covered

  pub visited_just : (xs : List (ℕ × Attr)) → Visits d 20 xs → xs ≡ placed 20 (attributes d)
  visited_just xs v = visits_one v visited

  pub at_most : Bytes d → length (attributes d) ≤ 16383
  unfolding be16
  at_most h = omega (arith, covers, sizes_least (attributes d), byte_at d 2 h, byte_at d 3 h)

-- the number told is the number of attributes
pub count_told : (rows : List Row) (d : List ℕ) {c : MessageClass} {m : Method} {n : ℕ} → answer_of (reading_of rows d) ≡ answer.Whole c m n → n ≡ length (attributes d)
count_told rows d {c} {m} {n} e = let f = ap answer_of (told rows d (told_whole rows d e)) in cc
