-- 0 is told of what is signed, and of nothing else.
use Rattle.std.specs.Prelude.{ℕ, List, Bool, true, false, ◌≡◌, refl}
use Rattle.std.proofs.Common.{sym, ◌∙◌, arith}
use Rattle.base.specs.Choice.{pick}
use Rattle.registry.specs.declared.Row.{Row}
use Rattle.read_message.specs.Reading.{reading_said, reading_of}
use Rattle.read_first.specs.First.{Place, none, starts, first_in, is_whole}
use Rattle.read_first.proofs.WholeLaws.{number_whole}
use Rattle.base.specs.SameLaws.{same_eq, same_refl}
use Rattle.base.specs.Same.{same}
use Rattle.read_integrity.specs.Integrity.{integrity_at, compared_at, compared, integrity_fault, Signed}

-- over any list of types
pub signed_0 : {rows : List Row} {d key : List ℕ} → Signed rows d key → integrity_fault rows d key ≡ 0
unfolding integrity_fault compared compared_at
signed_0 {rows} {d} {key} s = rw (s.whole, s.there, s.value, same_refl s.attr.value)

-- and the other way
pub only_signed : (rows : List Row) (d key : List ℕ) → integrity_fault rows d key ≡ 0 → Signed rows d key
unfolding integrity_fault compared compared_at
only_signed rows d key e = go (is_whole rows d) refl e
  where
    found : (x : Place) → is_whole rows d ≡ true → first_in 0x0008 d ≡ x → compared d key x ≡ 0 → Signed rows d key
    found none w f h = absurd (omega arith)
    found (starts p a) w f h = same_value (same (integrity_at key d p) a.value) refl h
      where
        same_value : (b : Bool) → same (integrity_at key d p) a.value ≡ b → ◌≡◌ {A = ℕ} (pick b 0 32) 0 → Signed rows d key
        same_value true g i = record { whole = w; place = p; attr = a; there = f; value = same_eq (integrity_at key d p) a.value g }
        same_value false g i = absurd (omega arith)

    go : (b : Bool) → is_whole rows d ≡ b → pick b (compared d key (first_in 0x0008 d)) (reading_said (reading_of rows d)).number ≡ 0 → Signed rows d key
    go true w h = found (first_in 0x0008 d) w refl h
    go false w h = let z : false ≡ true = sym w ∙ number_whole rows d h in let y : ◌≡◌ {A = ℕ} 0 1 = cc in absurd (omega arith)
