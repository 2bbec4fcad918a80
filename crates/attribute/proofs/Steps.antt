-- What `step` and `walk_at` return, as the code finds their numbers.
use Rattle.std.specs.Prelude.{ℕ, ◌+◌, ◌≤◌, ◌<◌, List, ◌≡◌, length, Bool, true, false, is_err, Result, Ok, Err}
use Rattle.std.proofs.Common.{sym, ap, ◌∙◌, lt-ltb, le-ltb, eq-eqb, ne_eqb}
use Rattle.big_endian.specs.Numbers.{be16}
use Rattle.wire.specs.declared.refusal.Refusal.{Refusal}
use Rattle.header.specs.Header.{header_fault, header_of}
use Rattle.header.specs.HeaderLaws.{good_head, refused}
use Rattle.header.specs.declared.Header.{Header}
use Rattle.attribute.specs.Attribute.{padded}
use Rattle.attribute.specs.Walk.{step_at, walk_at}
use Rattle.attribute.specs.WalkLaws.{long, attribute, at_step}
use Rattle.attribute.specs.declared.Walk.{Walk}
use Rattle.attribute.specs.declared.Walk.TheVariants.{Attribute, Cut}

pub attr_step : (d : List ℕ) (p k n w : ℕ)
    → k ≡ be16 d p → n ≡ be16 d (p + 2) → w ≡ padded n → p + 4 + w ≤ length d → Attribute p k (p + 4) n (p + 4 + w) ≡ step_at d p
attr_step d p k n w e f g h =
    let i : w ≡ padded (be16 d (p + 2)) = g ∙ ap (λ (m : ℕ). padded m) f in
    rw (e, i, f) (at_step (attribute (rw i at h)))

pub long_step : (d : List ℕ) (p n w : ℕ)
    → n ≡ be16 d (p + 2) → w ≡ padded n → p + 4 ≤ length d → length d < p + 4 + w → Cut p ≡ step_at d p
long_step d p n w f g l h = at_step (long l (rw (g ∙ ap (λ (m : ℕ). padded m) f) at h))

refused_at : (d : List ℕ) (p : ℕ) {r : Refusal} → header_of d ≡ Err r → Cut p ≡ walk_at d p
unfolding walk_at
refused_at d p f = simp (ne_eqb (header_fault d) 0 (refused d f).some)

good : (d : List ℕ) {h : Header} → header_of d ≡ Ok h → header_fault d ≡ 0
good d f = (good_head d f).fault

pub walk_refused : (d : List ℕ) (p : ℕ) (w : Result Header Refusal) → w ≡ header_of d → is_err w ≡ true → Cut p ≡ walk_at d p
walk_refused d p (Ok h) e f = let z : ◌≡◌ {A = Bool} false true = f in absurd cc
walk_refused d p (Err r) e f = refused_at d p (sym e)

pub walk_header : (d : List ℕ) (p : ℕ) (w : Result Header Refusal) → w ≡ header_of d → p < 20 → Cut p ≡ walk_at d p
unfolding walk_at
walk_header d p (Ok h) e l = simp (eq-eqb (header_fault d) 0 (good d (sym e)), lt-ltb p 20 l)
walk_header d p (Err r) e l = refused_at d p (sym e)

pub walk_step : (d : List ℕ) (p : ℕ) (w : Result Header Refusal) {v : Walk} → w ≡ header_of d → is_err w ≡ false → 20 ≤ p → v ≡ step_at d p
    → v ≡ walk_at d p
unfolding walk_at
walk_step d p (Ok h) e f l g = simp (eq-eqb (header_fault d) 0 (good d (sym e)), le-ltb p 20 l) g
walk_step d p (Err r) e f l g = let z : ◌≡◌ {A = Bool} true false = f in absurd cc
