-- DEMAND 3, of the definition of whole: two whole datagrams of equal length, each with a FINGERPRINT as its last attribute, that agree
-- outside four neighbouring places are equal. Under any list of types; nothing is assumed but that elements are bytes.
use Rattle.std.specs.Prelude.{ℕ, ◌+◌, ◌-◌, ◌≤◌, ◌<◌, List, [], ◌∷◌, ◌++◌, Bool, true, false, ◌⊎◌, ◌≡◌, refl, length, get_or, drop}
use Rattle.std.proofs.Common.{append-nil, sym, ◌∙◌, arith, eq-eqb, length-append, length-drop, drop-drop}
use Rattle.std.proofs.Math.Path.{ap}
use Rattle.std.proofs.Math.Seq.{drop-append_seam}
use Rattle.base.specs.Choice.{pick}
use Rattle.base.specs.BytesLaws.{byte_at, drop-bytes}
use Rattle.base.specs.Bytes.{Bytes}
use Rattle.base.specs.SameLaws.{same_eq}
use Rattle.base.specs.Same.{same}
use Rattle.big_endian.specs.Numbers.{be16, four}
use Rattle.header.specs.HeaderLaws.{long, sized}
use Rattle.attribute.specs.Attribute.{Attr, attrs, parse, bytes_of, all_bytes}
use Rattle.attribute.specs.Good.{Good, Goods}
use Rattle.attribute.proofs.RoundTripLaws.{goods_read, write_read}
use Rattle.fingerprint.specs.Fingerprint.{fingerprint_at, printed}
use Rattle.fingerprint.specs.FingerprintLaws.{owes_sum}
use Rattle.fingerprint.proofs.StretchLaws.{Sealed, stretch_sealed}
use Rattle.registry.specs.declared.Row.{Row}
use Rattle.attribute.specs.Scan.{Pass}
use Rattle.read_fingerprints.specs.Fingerprints.{print_fault, print_faults}
use Rattle.read_message.specs.Whole.{Whole, attributes}
use Rattle.read_message.proofs.WholeLaws.{parts}
use Rattle.round_trip.specs.FrontLaws.{all_append}
use Rattle.theorems.specs.Ends.{Ends}

-- the last of attributes that pass
pass_last : (f : ℕ → Attr → ℕ) (p : ℕ) (ys : List Attr) (a : Attr) → Pass f p (ys ++ (a ∷ [])) → f (p + length (all_bytes ys)) a ≡ 0
pass_last f p [] a h = let e : p + 0 ≡ p = omega arith in ap (λ (q : ℕ). f q a) e ∙ h.0
pass_last f p (y ∷ ys) a h =
    let l : length (bytes_of y ++ all_bytes ys) ≡ length (bytes_of y) + length (all_bytes ys) = length-append (bytes_of y) (all_bytes ys) in
    let e : p + length (bytes_of y ++ all_bytes ys) ≡ p + length (bytes_of y) + length (all_bytes ys) = omega (arith, l) in
    ap (λ (q : ℕ). f q a) e ∙ pass_last f (p + length (bytes_of y)) ys a h.1

-- a FINGERPRINT that passed has the value owed
right_print : (d : List ℕ) (p k : ℕ) (v : List ℕ) → k ≡ 0x8028 → print_fault d p k v ≡ 0 → v ≡ four (printed d p)
unfolding print_fault
right_print d p k v e f = value (same v (four (printed d p))) refl (simp (eq-eqb k 0x8028 e) at f)
  where
    value : (b : Bool) → same v (four (printed d p)) ≡ b → ◌≡◌ {A = ℕ} (pick b 0 15) 0 → v ≡ four (printed d p)
    value true q g = same_eq v (four (printed d p)) q
    value false q g = absurd (omega arith)

good_last : (ys : List Attr) (a : Attr) → Goods (ys ++ (a ∷ [])) → Good a
good_last [] a g = g.0
good_last (y ∷ ys) a g = good_last ys a g.1

-- a whole datagram whose last attribute is a FINGERPRINT ends in a right one
module _ (rows : List Row) (d : List ℕ) (h : Bytes d) (w : Whole rows d) (ys : List Attr) (a : Attr)
    (e : attributes d ≡ ys ++ (a ∷ [])) (k : a.kind ≡ 0x8028) where
  abbrev at : ℕ
  at = 20 + length (all_bytes ys)

  owed : a.value ≡ four (printed d at)
  unfolding print_faults
  owed = right_print d at a.kind a.value k (pass_last (print_faults d) 20 ys a (rw e at (parts rows d w).prints))

  body : all_bytes ys ++ bytes_of a ≡ drop 20 d
  body =
      ap (λ (l : List ℕ). all_bytes ys ++ l) (sym (append-nil (bytes_of a))) ∙ sym (all_append ys (a ∷ [])) ∙ ap all_bytes (sym e)
      ∙ sym (append-nil (all_bytes (attrs (parse 0 (drop 20 d)))))
      ∙ ap (λ (l : List ℕ). all_bytes (attrs (parse 0 (drop 20 d))) ++ l) (sym (parts rows d w).covered) ∙ write_read 0 (drop 20 d) (drop-bytes 20 d h)

  pad : a.pad ≡ []
  pad =
      let b : Good a = good_last ys a (rw e at (goods_read 0 (drop 20 d) (drop-bytes 20 d h))) in
      let v : length a.value ≡ 4 = ap length owed in
      nothing a.pad (omega (arith, b.padding, v))
    where
      nothing : (l : List ℕ) → length l ≡ 0 → l ≡ []
      nothing [] e = refl
      nothing (x ∷ l) e = absurd (omega arith)

  whole_size : length d ≡ at + 8
  whole_size =
      let l : 20 ≤ length d = long d (parts rows d w).header in
      let n : length d - 20 ≡ length (all_bytes ys) + length (bytes_of a) = sym (length-drop 20 d) ∙ sym (ap length body) ∙ length-append (all_bytes ys) (bytes_of a) in
      let v : length (a.value ++ a.pad) ≡ 4 = rw (owed, pad) refl in
      omega arith

  field : be16 d 2 ≡ at - 20 + 8
  field = omega (arith, sized d (parts rows d w).header, whole_size)

  bytes : bytes_of a ≡ 0x80 ∷ 0x28 ∷ 0 ∷ 4 ∷ four (fingerprint_at d at)
  unfolding be16
  bytes =
      let o : a.value ≡ four (fingerprint_at d at) =
      owed ∙ ap four (owes_sum d at (omega arith) (omega (arith, whole_size)) (omega (arith, field, byte_at d 2 h, byte_at d 3 h)))
      in
      rw (k, o, pad)

  pub sealed : Sealed d at
  sealed = record {
    low = omega arith;
    long = omega (arith, whole_size);
    field = field;
    print =
        sym (drop-drop (length (all_bytes ys)) 20 d) ∙ ap (drop (length (all_bytes ys))) (sym body)
        ∙ drop-append_seam (all_bytes ys) (bytes_of a) ∙ bytes;
  }

ending : {rows : List Row} {d : List ℕ} (x : Ends rows d) → Sealed d (20 + length (all_bytes x.before))
ending {rows} {d} x = sealed rows d x.bytes x.whole x.before x.print x.last x.kind

pub stretch : (rows : List Row) (d e : List ℕ) (k : ℕ) → Ends rows d → Ends rows e → length d ≡ length e
    → ((j : ℕ) → (j < k) ⊎ (k + 4 ≤ j) → get_or d j 0 ≡ get_or e j 0) → d ≡ e
stretch rows d e k x y l same =
    let p : ℕ = 20 + length (all_bytes x.before) in
    let q : 20 + length (all_bytes y.before) ≡ p = omega (arith, (ending x).long, (ending y).long, l) in
    stretch_sealed d e p k x.bytes y.bytes (ending x) (rw q at (ending y)) same
