-- Attributes written one after the other are read as they were, and attributes read are written as they were.
use Rattle.std.specs.Prelude.{ℕ, zero, suc, ◌+◌, ◌-◌, ◌*◌, ◌/◌, ◌%◌, ◌≤◌, ◌<◌, List, [], ◌∷◌, ◌++◌, ◌≡◌, refl, length, take, drop, leb}
use Rattle.std.proofs.Common.{append_assoc, append-nil, sym, ap, ◌∙◌, arith, length-append, length-drop, take-append-drop, le-leb, length-take-le, take_at, drop_at, take-add}
use Rattle.std.proofs.Math.Decide.{dec_lt}
use Rattle.std.proofs.lemmas.Bool.{lt-leb}
use Rattle.base.specs.Choice.{pick}
use Rattle.base.specs.Bytes.{Bytes}
use Rattle.attribute.specs.Attribute.{padded, Attr, Body, stop, more, attrs, rest, attr_of, parse, bytes_of, all_bytes}
use Rattle.attribute.specs.Good.{Good, Goods}
use Rattle.attribute.proofs.BodyLaws.{parse_none, parse_attr}

-- the attributes xs, and then what b is
abbrev pub before : List Attr → Body → Body
before [] b = b
before (a ∷ xs) b = more a (before xs b)

num : (n : ℕ) → n / 256 * 256 + n % 256 ≡ n
num n = omega arith

-- an attribute's own bytes, with more behind them, give the attribute
attr_of_lem : (a : Attr) (s : List ℕ) → Good a → attr_of a.kind (length a.value) (a.value ++ (a.pad ++ s)) ≡ a
attr_of_lem a s g =
    let v : take (length a.value) (a.value ++ (a.pad ++ s)) ≡ a.value = take_at _ _ _ refl in
    let w : drop (length a.value) (a.value ++ (a.pad ++ s)) ≡ a.pad ++ s = drop_at a.value _ _ refl in
    let p : take (padded (length a.value) - length a.value) (a.pad ++ s) ≡ a.pad = take_at a.pad s (padded (length a.value) - length a.value) (omega (arith, g.padding)) in
    rw (v, w, p)

pub read_attr : (a : Attr) (s : List ℕ) → Good a → parse 0 (bytes_of a ++ s) ≡ more a (parse 0 s)
read_attr a s g =
    let n : ℕ = length a.value in
    let l : length (a.value ++ a.pad) ≡ padded n = simp length-append g.padding in
    let q : drop (padded n) (a.value ++ a.pad ++ s) ≡ s = drop_at (a.value ++ a.pad) s (padded n) l in
    let h : padded n ≤ length (a.value ++ a.pad ++ s) = simp length-append (omega (arith, g.padding)) in
    parse_attr (a.kind / 256) (a.kind % 256) (n / 256) (n % 256) (a.value ++ a.pad ++ s) (rw (num n) h)
    ∙ rw (num n, num a.kind, q, append_assoc a.value a.pad s, attr_of_lem a s g)

pub read_written : (xs : List Attr) (s : List ℕ) → Goods xs → parse 0 (all_bytes xs ++ s) ≡ before xs (parse 0 s)
read_written [] s g = refl
read_written (a ∷ xs) s g =
    rw append_assoc (read_attr a (all_bytes xs ++ s) g.0 ∙ ap (λ (b : Body). more a b) (read_written xs s g.1))

-- an attribute that was cut out of bytes, written again
write_attr : (a b c e : ℕ) (r s : List ℕ) → b < 256 → e < 256 → padded (c * 256 + e) ≤ length r → s ≡ drop (padded (c * 256 + e)) r
    → bytes_of (attr_of (a * 256 + b) (c * 256 + e) r) ++ s ≡ a ∷ b ∷ c ∷ e ∷ r
write_attr a b c e r s hb he l q =
    let n : ℕ = c * 256 + e in
    let z : length (take n r) ≡ n = length-take-le n r (omega arith) in
    let i : (a * 256 + b) / 256 ≡ a = omega arith in
    let j : (a * 256 + b) % 256 ≡ b = omega arith in
    let k : (c * 256 + e) / 256 ≡ c = omega arith in
    let m : (c * 256 + e) % 256 ≡ e = omega arith in
    let y : n + (padded n - n) ≡ padded n = omega arith in
    let t : take n r ++ take (padded n - n) (drop n r) ≡ take (padded n) r =
    sym (take-add n (padded n - n) r) ∙ ap (λ (x : ℕ). take x r) y
    in
    rw (z, i, j, k, m, t, q) (ap (λ (x : List ℕ). a ∷ b ∷ c ∷ e ∷ x) (take-append-drop (padded n) r))

write_case : (a b c e : ℕ) (r : List ℕ) (x : Body) → Bytes (a ∷ b ∷ c ∷ e ∷ r)
    → all_bytes (attrs x) ++ rest x ≡ drop (padded (c * 256 + e)) r → Dec (length r < padded (c * 256 + e))
    → (y : Body) → y ≡ pick (leb (padded (c * 256 + e)) (length r)) (more (attr_of (a * 256 + b) (c * 256 + e) r) x) (stop (a ∷ b ∷ c ∷ e ∷ r))
    → all_bytes (attrs y) ++ rest y ≡ a ∷ b ∷ c ∷ e ∷ r
write_case a b c e r x h q (yes l) y f = rw (f, lt-leb (padded (c * 256 + e)) (length r) l)
write_case a b c e r x h q (no l) y f =
    let m : padded (c * 256 + e) ≤ length r = omega arith in
    rw (f, le-leb (padded (c * 256 + e)) (length r) m)
    (append_assoc (bytes_of (attr_of (a * 256 + b) (c * 256 + e) r)) (all_bytes (attrs x)) (rest x)
    ∙ write_attr a b c e r _ h.1.0 h.1.1.1.0 m q)

-- what is read, written again
pub write_read : (k : ℕ) (d : List ℕ) → Bytes d → all_bytes (attrs (parse k d)) ++ rest (parse k d) ≡ drop k d
unfolding parse
write_read (suc k) [] h = refl
write_read (suc k) (a ∷ r) h = write_read k r h.1
write_read zero [] h = refl
write_read zero (a ∷ []) h = refl
write_read zero (a ∷ b ∷ []) h = refl
write_read zero (a ∷ b ∷ c ∷ []) h = refl
write_read zero (a ∷ b ∷ c ∷ e ∷ r) h =
    write_case a b c e r (parse (padded (c * 256 + e)) r) h (write_read (padded (c * 256 + e)) r h.1.1.1.1) (dec_lt _ _) _ refl

-- what is read is good
good_attr : (a b c e : ℕ) (r : List ℕ) → a < 256 → b < 256 → c < 256 → e < 256 → padded (c * 256 + e) ≤ length r
    → Good (attr_of (a * 256 + b) (c * 256 + e) r)
good_attr a b c e r ha hb hc he l =
    let n : ℕ = c * 256 + e in
    let z : length (take n r) ≡ n = length-take-le n r (omega arith) in
    let w : length (take (padded n - n) (drop n r)) ≡ padded n - n = length-take-le (padded n - n) (drop n r) (simp length-drop (omega arith)) in
    record { kind_fits = omega arith; size_fits = rw z (omega arith); padding = rw (z, w) (omega arith) }

good_case : (a b c e : ℕ) (r : List ℕ) (x : Body) → Bytes (a ∷ b ∷ c ∷ e ∷ r) → Goods (attrs x) → Dec (length r < padded (c * 256 + e))
    → (y : Body) → y ≡ pick (leb (padded (c * 256 + e)) (length r)) (more (attr_of (a * 256 + b) (c * 256 + e) r) x) (stop (a ∷ b ∷ c ∷ e ∷ r))
    → Goods (attrs y)
good_case a b c e r x h q (yes l) y f = rw (f, lt-leb (padded (c * 256 + e)) (length r) l) tt
good_case a b c e r x h q (no l) y f =
    let m : padded (c * 256 + e) ≤ length r = omega arith in
    rw (f, le-leb (padded (c * 256 + e)) (length r) m) (good_attr a b c e r h.0 h.1.0 h.1.1.0 h.1.1.1.0 m, q)

pub goods_read : (k : ℕ) (d : List ℕ) → Bytes d → Goods (attrs (parse k d))
unfolding parse
goods_read (suc k) [] h = tt
goods_read (suc k) (a ∷ r) h = goods_read k r h.1
goods_read zero [] h = tt
goods_read zero (a ∷ []) h = tt
goods_read zero (a ∷ b ∷ []) h = tt
goods_read zero (a ∷ b ∷ c ∷ []) h = tt
goods_read zero (a ∷ b ∷ c ∷ e ∷ r) h =
    good_case a b c e r (parse (padded (c * 256 + e)) r) h (goods_read (padded (c * 256 + e)) r h.1.1.1.1) (dec_lt _ _) _ refl

attrs_before : (xs : List Attr) (b : Body) → attrs (before xs b) ≡ xs ++ attrs b
attrs_before [] b = refl
attrs_before (a ∷ xs) b = ap (λ (l : List Attr). a ∷ l) (attrs_before xs b)

rest_before : (xs : List Attr) (b : Body) → rest (before xs b) ≡ rest b
rest_before [] b = refl
rest_before (a ∷ xs) b = rest_before xs b

-- THE ROUND TRIP: what was written is read as it was given, with no rest
pub decode_all_bytes : (xs : List Attr) → Goods xs → (attrs (parse 0 (all_bytes xs)) ≡ xs) × (rest (parse 0 (all_bytes xs)) ≡ [])
decode_all_bytes xs g =
    let e : parse 0 (all_bytes xs) ≡ before xs (stop []) =
    ap (λ (s : List ℕ). parse 0 s) (sym (append-nil (all_bytes xs))) ∙ read_written xs [] g ∙ ap (λ (b : Body). before xs b) parse_none
    in
    (rw e (attrs_before xs (stop []) ∙ append-nil xs), rw e (rest_before xs (stop [])))

-- and what was read without a rest is written as it was
pub all_bytes-decode : (d : List ℕ) → Bytes d → rest (parse 0 d) ≡ [] → all_bytes (attrs (parse 0 d)) ≡ d
all_bytes-decode d h e =
    sym (append-nil (all_bytes (attrs (parse 0 d)))) ∙ ap (λ (r : List ℕ). all_bytes (attrs (parse 0 d)) ++ r) (sym e) ∙ write_read 0 d h
