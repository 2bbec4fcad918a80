-- The value of an ERROR-CODE is written as it was read, and read as it was written. Read without fault it is in range, and written in range
-- it is without fault.
use Rattle.std.specs.Prelude.{ℕ, ◌+◌, ◌*◌, ◌/◌, ◌%◌, ◌≤◌, List, [], ◌∷◌, Bool, true, false, ◌≡◌, refl, length, get_or, drop, ltb, Some}
use Rattle.std.proofs.Common.{arith, le-ltb, ltb-false}
use Rattle.base.specs.Bytes.{Bytes}
use Rattle.base.specs.BytesLaws.{byte_at}
use Rattle.base.specs.Choice.{pick}
use Rattle.utf8_spec.specs.Utf8.{is_utf8}
use Rattle.registry.specs.ErrorCode.{code_of, code_value}
use Rattle.registry.specs.Rows.{row}
use Rattle.registry.specs.Fault.{code_fault, rule_fault, entry_fault}
use Rattle.registry.specs.declared.ErrorCode.{ErrorCode}
use Rattle.registry.specs.declared.Rule.TheVariants.{Code}

-- a value without fault has four bytes, and class and number are in range
pub passes : (v : List ℕ) → code_fault v ≡ 0 → (4 ≤ length v) × (3 ≤ get_or v 2 0 % 8) × (get_or v 2 0 % 8 ≤ 6) × (get_or v 3 0 ≤ 99)
unfolding code_fault
passes v e = go (ltb (length v) 4) (ltb (get_or v 2 0 % 8) 3) (ltb 6 (get_or v 2 0 % 8)) (ltb 99 (get_or v 3 0)) refl refl refl refl e
  where
    go : (a b c d : Bool) → ltb (length v) 4 ≡ a → ltb (get_or v 2 0 % 8) 3 ≡ b → ltb 6 (get_or v 2 0 % 8) ≡ c → ltb 99 (get_or v 3 0) ≡ d
        → ◌≡◌ {A = ℕ} (pick a 11 (pick b 13 (pick c 13 (pick d 13 (pick (is_utf8 (drop 4 v)) 0 14))))) 0
        → (4 ≤ length v) × (3 ≤ get_or v 2 0 % 8) × (get_or v 2 0 % 8 ≤ 6) × (get_or v 3 0 ≤ 99)
    go false false false false p q r s f =
        (ltb-false (length v) 4 p, ltb-false (get_or v 2 0 % 8) 3 q, ltb-false 6 (get_or v 2 0 % 8) r, ltb-false 99 (get_or v 3 0) s)
    go false false false true p q r s f = absurd (omega arith)
    go false false true d p q r s f = absurd (omega arith)
    go false true c d p q r s f = absurd (omega arith)
    go true b c d p q r s f = absurd (omega arith)

pub read_in_range : (v : List ℕ) → Bytes v → code_fault v ≡ 0 → (300 ≤ (code_of v).code) × ((code_of v).code ≤ 699) × ((code_of v).reserved ≤ 2097151)
unfolding code_of
read_in_range v h e =
    let (_, l, g, n) = passes v e in
    (omega arith, omega arith, omega (arith, byte_at v 0 h, byte_at v 1 h, byte_at v 2 h))

pub written_as_read : (v : List ℕ) → Bytes v → code_fault v ≡ 0 → code_value (code_of v) (drop 4 v) ≡ v
unfolding code_of code_value
written_as_read v h e = go v h (passes v e).0 (passes v e).3
  where
    go : (v : List ℕ) → Bytes v → 4 ≤ length v → get_or v 3 0 ≤ 99 → code_value (code_of v) (drop 4 v) ≡ v
    go [] h l n = absurd (omega arith)
    go (a ∷ []) h l n = absurd (omega arith)
    go (a ∷ b ∷ []) h l n = absurd (omega arith)
    go (a ∷ b ∷ c ∷ []) h l n = absurd (omega arith)
    go (a ∷ b ∷ c ∷ d ∷ s) (k, (m, (o, i))) l n =
        let w : (a * 8192 + b * 32 + c / 8) / 8192 ≡ a = omega arith in
        let x : (a * 8192 + b * 32 + c / 8) / 32 % 256 ≡ b = omega arith in
        let y : (a * 8192 + b * 32 + c / 8) % 32 * 8 + (c % 8 * 100 + d) / 100 ≡ c = omega arith in
        let z : (c % 8 * 100 + d) % 100 ≡ d = omega arith in
        rw (w, x, y, z)

pub read_as_written : (e : ErrorCode) (s : List ℕ) → e.code ≤ 699 → code_of (code_value e s) ≡ e
unfolding code_of code_value
read_as_written e s h =
    let c : (e.reserved % 32 * 8 + e.code / 100) % 8 * 100 + e.code % 100 ≡ e.code = omega arith in
    let low : (e.reserved % 32 * 8 + e.code / 100) / 8 ≡ e.reserved % 32 = omega arith in
    let high : e.reserved / 8192 ≡ e.reserved / 32 / 256 = omega arith in
    let r : e.reserved / 8192 * 8192 + e.reserved / 32 % 256 * 32 + (e.reserved % 32 * 8 + e.code / 100) / 8 ≡ e.reserved =
    omega (arith, low, high) in
    rw (c, r)

pub value_right : (k : ℕ) (e : ErrorCode) (s : List ℕ) → 300 ≤ e.code → e.code ≤ 699 → length s ≤ 127 → is_utf8 s ≡ true
    → entry_fault (Some (row k 4 131 Code)) (code_value e s) ≡ 0
unfolding entry_fault rule_fault code_fault code_value
value_right k e s l h n t =
    let c : (e.reserved % 32 * 8 + e.code / 100) % 8 ≡ e.code / 100 = omega arith in
    let low : 3 ≤ e.code / 100 = omega arith in
    let high : e.code / 100 ≤ 6 = omega arith in
    let number : e.code % 100 ≤ 99 = omega arith in
    simp (le-ltb (length (code_value e s)) 4 (omega arith), le-ltb 131 (length (code_value e s)) (omega arith), c, le-ltb (e.code / 100) 3 low, le-ltb 6 (e.code / 100) high, le-ltb 99 (e.code % 100) number, t)
