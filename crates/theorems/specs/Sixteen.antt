-- NUMBER 16 was for a FINGERPRINT so far back that its adjusted length has no place in 16 bits. Where FINGERPRINT has four bytes, as in the
-- list of RFC 5389, no datagram brought it: the reading with that number and the reading without it are the same, of every list of bytes.
-- Shut out is a reader that in losing the number answers some datagram otherwise: one that says 14 of a FINGERPRINT that differs meets
-- every other theorem here.
use Rattle.wire.specs.declared.refusal.Refusal.{Refusal}
use Rattle.wire.specs.Refusal.{by}
use Rattle.std.specs.Prelude.{ℕ, ◌+◌, ◌-◌, ◌%◌, ◌≤◌, ◌<◌, List, [], ◌∷◌, ◌++◌, Bool, get_or, drop, leb, Option, Some, None, Result, Ok, Err}
use Rattle.std.proofs.Math.Bool.{true, false}
use Rattle.std.proofs.Math.Path.{◌≡◌, refl, sym, ap}
use Rattle.std.proofs.Common.{◌∙◌}
use native.Mathlib.Omega.{arith}
use Rattle.std.proofs.Math.Decide.{dec_lt}
use borrow.Author.Tests.{eqb-true, le-ltb, ltb-false, ne_eqb}
use Rattle.std.proofs.Math.ListN.{length, length-append, length-drop}
use Rattle.std.proofs.Math.Dec.{eqb, ltb}
use Rattle.base.specs.Choice.{pick}
use Rattle.base.specs.BytesLaws.{byte_at, drop-bytes}
use Rattle.base.specs.Bytes.{Bytes}
use Rattle.base.specs.Same.{same}
use Rattle.big_endian.specs.Numbers.{be16, four}
use Rattle.cookie.specs.Cookie.{cookie_at}
use Rattle.wire.specs.TypeNumber.{class_of, method_of, class_numbered}
use Rattle.wire.specs.declared.method.Method.{Method}
use Rattle.wire.specs.declared.types.MessageClass.{MessageClass}
use Rattle.header.specs.Header.{front_fault, header_fault, id_of}
use Rattle.header.specs.HeaderLaws.{sized}
use Rattle.attribute.specs.Attribute.{Attr, Body, stop, more, attrs, rest, parse, bytes_of, all_bytes}
use Rattle.attribute.proofs.RoundTripLaws.{write_read}
use Rattle.attribute.specs.Scan.{Scan, at_fault, scan_said, scan, scanned, Pass}
use Rattle.attribute.specs.PassLaws.{passed_all}
use Rattle.utf8_spec.specs.Utf8.{is_utf8}
use Rattle.fingerprint.specs.Fingerprint.{fingerprint_at, printed}
use Rattle.fingerprint.specs.FingerprintLaws.{owes_sum}
use Rattle.registry.specs.Rows.{look, rfc5389, row}
use Rattle.registry.specs.Fault.{address_fault, code_fault, rule_fault, entry_fault, fault}
use Rattle.registry.specs.declared.Row.{Row}
use Rattle.registry.specs.declared.Rule.{Rule}
use Rattle.registry.specs.declared.Rule.TheVariants.{Address, XorAddress, Text, Code, Types, Plain}
use Rattle.read_fingerprints.specs.Fingerprints.{print_fault, print_faults}
use Rattle.read_message.specs.Reading.{value_faults, and_then, outcome, answered, answer_said, reading_said, reading_of}
use Rattle.read_message.proofs.WholeLaws.{number_by, judged_answer, refused_answer}
use Rattle.read_message.specs.declared.Reading.{Reading}

-- ---- the reading while there was a number 16

-- a FINGERPRINT at p: 16 where its adjusted length has no place in 16 bits, else 15 where its value differs
unfoldable pub print_faults_with_sixteen : List ℕ → ℕ → Attr → ℕ
print_faults_with_sixteen d p a =
    pick (eqb a.kind 0x8028) (pick (ltb 65535 (p - 20 + 8)) 16 (pick (same a.value (four (fingerprint_at d p))) 0 15)) 0

unfoldable pub reading_with_sixteen : List Row → List ℕ → Result Reading Refusal
reading_with_sixteen rows d =
    pick (eqb (header_fault d) 0)
    (Ok (record {
      class = class_numbered (class_of (be16 d 0));
      method = record { code = method_of (be16 d 0) };
      id = record { bytes = id_of d };
      attributes = and_then (scanned (value_faults rows) d) (scanned (print_faults_with_sixteen d) d);
    }))
    (Err (by (header_fault d)))

-- ---- the numbers of the reading are smaller

record Small (n : ℕ) : Type 0 where
  is : n < 16

either : (b : Bool) {x y : ℕ} → Small x → Small y → Small (pick b x y)
either true h k = h
either false h k = k

small : (n : ℕ) → n < 16 → Small n
small n h = record { is = h }

header_small : (d : List ℕ) → Small (header_fault d)
unfolding header_fault front_fault
header_small d =
    either (eqb (front_fault d) 0) (either (eqb (length d) (20 + be16 d 2)) (small 0 (omega arith)) (small 4 (omega arith)))
    (either (ltb (length d) 20) (small 1 (omega arith))
    (either (leb 16384 (be16 d 0)) (small 2 (omega arith)) (either (cookie_at d 4) (small 0 (omega arith)) (small 3 (omega arith)))))

address_small : (v : List ℕ) → Small (address_fault v)
unfolding address_fault
address_small v = either (eqb (length v) 8) (family 1) (either (eqb (length v) 20) (family 2) (small 11 (omega arith)))
  where
    family : (k : ℕ) → Small (pick (eqb (get_or v 1 0) k) 0 12)
    family k = either (eqb (get_or v 1 0) k) (small 0 (omega arith)) (small 12 (omega arith))

rule_small : (q : Rule) (v : List ℕ) → Small (rule_fault q v)
unfolding rule_fault code_fault
rule_small Address v = address_small v
rule_small XorAddress v = address_small v
rule_small Text v = either (is_utf8 v) (small 0 (omega arith)) (small 14 (omega arith))
rule_small Code v =
    either (ltb (length v) 4) (small 11 (omega arith))
    (either (ltb (get_or v 2 0 % 8) 3) range
    (either (ltb 6 (get_or v 2 0 % 8)) range
    (either (ltb 99 (get_or v 3 0)) range (either (is_utf8 (drop 4 v)) (small 0 (omega arith)) (small 14 (omega arith))))))
  where
    range : Small 13
    range = small 13 (omega arith)
rule_small Types v = either (eqb (length v % 2) 0) (small 0 (omega arith)) (small 11 (omega arith))
rule_small Plain v = small 0 (omega arith)

size_small : (x : Option Row) (v : List ℕ) → Small (entry_fault x v)
unfolding entry_fault
size_small None v = small 0 (omega arith)
size_small (Some r) v =
    either (ltb (length v) r.least) (small 11 (omega arith)) (either (ltb r.greatest (length v)) (small 11 (omega arith)) (rule_small r.rule v))

values_small : (rows : List Row) (p : ℕ) (a : Attr) → value_faults rows p a < 16
unfolding value_faults fault
values_small rows p a = (size_small (look rows a.kind) a.value).is

prints_small : (d : List ℕ) (p : ℕ) (a : Attr) → print_faults d p a < 16
unfolding print_faults print_fault
prints_small d p a =
    (either (eqb a.kind 0x8028) (either (same a.value (four (printed d p))) (small 0 (omega arith)) (small 15 (omega arith))) (small 0 (omega arith))).is

-- a fault that a scan finds is 10 or one of its faults
scan_small : (f : ℕ → Attr → ℕ) → ((p : ℕ) (a : Attr) → f p a < 16) → (n p : ℕ) (b : Body) {r q : ℕ} → scan f n p b ≡ at_fault r q → r < 16
unfolding scan scan_said
scan_small f h n p (stop []) e = let z : ◌≡◌ {A = ℕ} 0 1 = cc in absurd (omega arith)
scan_small f h n p (stop (x ∷ s)) {r} e = let z : 10 ≡ r = ap (λ (s : Scan). (scan_said s).number) e in omega arith
scan_small f h n p (more a b) {r} {q} e = go (eqb (f p a) 0) e (scan_small f h (n + 1) (p + length (bytes_of a)) b)
  where
    go : (t : Bool) → ◌≡◌ {A = Scan} (pick t (scan f (n + 1) (p + length (bytes_of a)) b) (at_fault (f p a) p)) (at_fault r q)
        → (scan f (n + 1) (p + length (bytes_of a)) b ≡ at_fault r q → r < 16) → r < 16
    go true g ih = ih g
    go false g ih = let z : f p a ≡ r = ap (λ (s : Scan). (scan_said s).number) g in omega (arith, h p a)

module _ (rows : List Row) (d : List ℕ) where
  scans : (c : MessageClass) (m : Method) (s t : Scan) → s ≡ scanned (value_faults rows) d → t ≡ scanned (print_faults d) d
      → (i : List ℕ) → (answer_said (answered c m (and_then s t)) i).number < 16
  unfolding scanned answer_said
  scans c m (Ok n) (Ok k) e f i = omega arith
  scans c m (Ok n) (Err x) e f i = scan_small (print_faults d) (prints_small d) 0 20 (parse 0 (drop 20 d)) (sym f)
  scans c m (Err x) t e f i = scan_small (value_faults rows) (values_small rows) 0 20 (parse 0 (drop 20 d)) (sym e)

  below_sixteen : (reading_said (reading_of rows d)).number < 16
  unfolding outcome answer_said
  below_sixteen = by (dec_lt 0 (header_fault d))
    where
      by : Dec (0 < header_fault d) → (reading_said (reading_of rows d)).number < 16
      by (yes l) = omega (arith, (header_small d).is, number_by rows d (refused_answer rows d l))
      by (no l) = rw (number_by rows d (judged_answer rows d (omega arith))) (scans _ _ _ _ refl refl _)

-- ---- and the old one is the same, under a list in which FINGERPRINT has four bytes

module _ (rows : List Row) (rule : Rule) (four-only : look rows 0x8028 ≡ Some (row 0x8028 4 4 rule)) where
  four_bytes : (v : List ℕ) → fault rows 0x8028 v ≡ 0 → length v ≡ 4
  unfolding fault entry_fault
  four_bytes v e = go (ltb (length v) 4) (ltb 4 (length v)) refl refl (ap (λ x. entry_fault x v) (sym four-only) ∙ e)
    where
      go : (a b : Bool) → ltb (length v) 4 ≡ a → ltb 4 (length v) ≡ b → pick a 11 (pick b 11 (rule_fault rule v)) ≡ 0 → length v ≡ 4
      go true b p q f = absurd (omega arith)
      go false true p q f = absurd (omega arith)
      go false false p q f = omega (arith, ltb-false (length v) 4 p, ltb-false 4 (length v) q)

  -- of an attribute that passed by its value and lies in a datagram
  module _ (d : List ℕ) (m : length d ≤ 65555) (p : ℕ) (a : Attr) (e : value_faults rows p a ≡ 0) (h : 20 ≤ p) (l : p + length (bytes_of a) ≤ length d) where
    near : a.kind ≡ 0x8028 → p - 20 + 8 ≤ 65535
    unfolding value_faults
    near k =
        let f : fault rows 0x8028 a.value ≡ 0 = ap (λ (x : ℕ). fault rows x a.value) (sym k) ∙ e in
        omega (arith, four_bytes a.value f, length-append a.value a.pad)

    fault_as_before : print_faults_with_sixteen d p a ≡ print_faults d p a
    unfolding print_faults_with_sixteen print_faults print_fault
    fault_as_before = go (eqb a.kind 0x8028) refl
      where
        go : (b : Bool) → eqb a.kind 0x8028 ≡ b
            → ◌≡◌ {A = ℕ} (pick b (pick (ltb 65535 (p - 20 + 8)) 16 (pick (same a.value (four (fingerprint_at d p))) 0 15)) 0)
            (pick b (pick (same a.value (four (printed d p))) 0 15) 0)
        go false x = refl
        go true x =
            let n : p - 20 + 8 ≤ 65535 = near (eqb-true a.kind 0x8028 x) in
            simp (le-ltb 65535 (p - 20 + 8) n, owes_sum d p h (omega arith) n)

  -- so of attributes that all passed, the first of them at p
  scan_as_before : (d : List ℕ) → length d ≤ 65555 → (n p : ℕ) (b : Body) → Pass (value_faults rows) p (attrs b) → 20 ≤ p
      → p + length (all_bytes (attrs b)) ≤ length d → scan (print_faults_with_sixteen d) n p b ≡ scan (print_faults d) n p b
  unfolding scan
  scan_as_before d m n p (stop []) v h l = refl
  scan_as_before d m n p (stop (x ∷ r)) v h l = refl
  scan_as_before d m n p (more a b) v h l =
      let k : length (bytes_of a ++ all_bytes (attrs b)) ≡ length (bytes_of a) + length (all_bytes (attrs b)) = length-append (bytes_of a) (all_bytes (attrs b)) in
      rw (
        fault_as_before d m p a v.0 h (omega (arith, k)),
        scan_as_before d m (n + 1) (p + length (bytes_of a)) b v.1 (omega arith) (omega (arith, k)),
      )

  module _ (d : List ℕ) (h : Bytes d) where
    outcome_as_before : header_fault d ≡ 0 → (s : Scan) → scanned (value_faults rows) d ≡ s
        → and_then s (scanned (print_faults_with_sixteen d) d) ≡ and_then s (scanned (print_faults d) d)
    unfolding scanned be16
    outcome_as_before z (Err x) e = refl
    outcome_as_before z (Ok n) e =
        let b : Body = parse 0 (drop 20 d) in
        let w : length (all_bytes (attrs b)) + length (rest b) ≡ length (drop 20 d) =
        sym (length-append (all_bytes (attrs b)) (rest b)) ∙ ap length (write_read 0 (drop 20 d) (drop-bytes 20 d h))
        in
        scan_as_before d (omega (arith, sized d z, byte_at d 2 h, byte_at d 3 h)) 0 20 b (passed_all (value_faults rows) 0 20 b e).each (omega arith)
        (omega (arith, w, length-drop 20 d, sized d z))

    pub sixteen_never : reading_with_sixteen rows d ≡ reading_of rows d
    unfolding reading_with_sixteen reading_of outcome
    sixteen_never = by (dec_lt 0 (header_fault d))
      where
        by : Dec (0 < header_fault d) → reading_with_sixteen rows d ≡ reading_of rows d
        by (yes l) = simp (ne_eqb (header_fault d) 0 (λ e. omega arith))
        by (no l) = rw (outcome_as_before (omega arith) (scanned (value_faults rows) d) refl)

    pub no_sixteen : (reading_said (reading_with_sixteen rows d)).number ≡ 16 → ⊥
    no_sixteen w = omega (arith, below_sixteen rows d, ap (λ (r : Result Reading Refusal). (reading_said r).number) sixteen_never)

-- the list of the reader is such a one
pub sixteen_never_of_rfc5389 : (d : List ℕ) → Bytes d → reading_with_sixteen rfc5389 d ≡ reading_of rfc5389 d
unfolding look
sixteen_never_of_rfc5389 = sixteen_never rfc5389 Plain refl
