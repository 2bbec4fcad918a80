-- The attributes of the bytes from a place on, by one step of the walk.
use Rattle.std.specs.Prelude.{ℕ, zero, suc, ◌+◌, ◌-◌, ◌*◌, ◌≤◌, ◌<◌, List, [], ◌∷◌, ◌≡◌, refl, length, take, drop}
use Rattle.std.proofs.Common.{ap, ◌∙◌, arith, le-leb, length-drop, drop_of_length-le, drop-drop}
use Rattle.std.proofs.lemmas.Bool.{lt-leb}
use Rattle.big_endian.specs.Numbers.{be16}
use Rattle.big_endian.specs.NumbersLaws.{four_at}
use Rattle.attribute.specs.Attribute.{padded, Body, stop, more, attr_of, parse}
use Rattle.attribute.specs.Walk.{step_at}
use Rattle.attribute.specs.WalkLaws.{At, beyond, ended, short, long, attribute, Stops, seen}
use Rattle.attribute.specs.declared.Walk.{Walk}
use Rattle.attribute.specs.declared.Walk.TheVariants.{Attribute, End, Cut}

-- skipping is dropping
pub parse_skip : (k : ℕ) (s : List ℕ) → parse k s ≡ parse 0 (drop k s)
unfolding parse
parse_skip zero s = refl
parse_skip (suc k) [] = refl
parse_skip (suc k) (a ∷ r) = parse_skip k r

-- `parse` by its cases: nothing, fewer than four bytes, a value that is there, and one that runs past the end
pub parse_none : parse 0 [] ≡ stop []
unfolding parse
parse_none = refl

pub parse_short : (s : List ℕ) → length s < 4 → parse 0 s ≡ stop s
unfolding parse
parse_short [] h = refl
parse_short (a ∷ []) h = refl
parse_short (a ∷ b ∷ []) h = refl
parse_short (a ∷ b ∷ c ∷ []) h = refl
parse_short (a ∷ b ∷ c ∷ e ∷ r) h = absurd (omega arith)

pub parse_attr : (a b c e : ℕ) (r : List ℕ) → padded (c * 256 + e) ≤ length r
    → parse 0 (a ∷ b ∷ c ∷ e ∷ r) ≡ more (attr_of (a * 256 + b) (c * 256 + e) r) (parse 0 (drop (padded (c * 256 + e)) r))
unfolding parse
parse_attr a b c e r h =
    simp (le-leb (padded (c * 256 + e)) (length r) h)
    (ap (λ (x : Body). more (attr_of (a * 256 + b) (c * 256 + e) r) x) (parse_skip (padded (c * 256 + e)) r))

pub parse_long : (a b c e : ℕ) (r : List ℕ) → length r < padded (c * 256 + e) → parse 0 (a ∷ b ∷ c ∷ e ∷ r) ≡ stop (a ∷ b ∷ c ∷ e ∷ r)
unfolding parse
parse_long a b c e r h = simp (lt-leb (padded (c * 256 + e)) (length r) h)

-- what the bytes from a place on hold, by the step taken there
abbrev pub body_of : List ℕ → Walk → Body
body_of d (Attribute p k v n x) =
    more (record { kind = k; value = take n (drop v d); pad = take (x - v - n) (drop (v + n) d) }) (parse 0 (drop x d))
body_of d (End p) = stop []
body_of d (Cut p) = stop (drop p d)

pub unroll : {d : List ℕ} {p : ℕ} {w : Walk} → At d p w → parse 0 (drop p d) ≡ body_of d w
unfolding be16
unroll {d} {p} (beyond h) = let e : drop p d ≡ [] = drop_of_length-le d {i = p} (omega arith) in rw e parse_none
unroll {d} {p} (ended h) = let e : drop p d ≡ [] = drop_of_length-le d {i = p} (omega arith) in rw e parse_none
unroll {d} {p} (short h l) = parse_short (drop p d) (simp length-drop (omega arith))
unroll {d} {p} (long h l) = rw (four_at d p h) (parse_long _ _ _ _ _ (simp length-drop (omega arith)))
unroll {d} {p} (attribute h) =
    let n : p + 4 + padded (be16 d (p + 2)) - (p + 4) - be16 d (p + 2) ≡ padded (be16 d (p + 2)) - be16 d (p + 2) = omega arith in
    rw (four_at d p (omega arith), n) (parse_attr _ _ _ _ _ (simp length-drop (omega arith)) ∙ simp drop-drop)

-- the law that every loop over attributes uses
pub body_seen : (d : List ℕ) (p : ℕ) {w : Walk} → w ≡ step_at d p → parse 0 (drop p d) ≡ body_of d w
body_seen d p e = unroll (seen e)

-- where the walk stops, what is left is no attribute
stop_left : {d : List ℕ} {p : ℕ} {w : Walk} → At d p w → Stops w → parse 0 (drop p d) ≡ stop (drop p d)
stop_left {d} {p} (beyond h) s = let e : drop p d ≡ [] = drop_of_length-le d {i = p} (omega arith) in rw e parse_none
stop_left {d} {p} (ended h) s = let e : drop p d ≡ [] = drop_of_length-le d {i = p} (omega arith) in rw e parse_none
stop_left (short h l) s = unroll (short h l)
stop_left (long h l) s = unroll (long h l)
stop_left {d = d} {p = p} (attribute _) s = elim s [ ]

pub stopped : (d : List ℕ) (p : ℕ) {w : Walk} → Stops w → w ≡ step_at d p → parse 0 (drop p d) ≡ stop (drop p d)
stopped d p s e = stop_left (seen e) s
