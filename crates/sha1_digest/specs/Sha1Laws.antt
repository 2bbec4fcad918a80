-- The digest's size, for callers.
use Rattle.std.specs.Prelude.{◌≡◌, ℕ, List, length, refl}
use Rattle.sha1_digest.specs.Finished.{finished}
use Rattle.sha1_digest.specs.Sha1.{sha1}

pub length-sha1 : (m : List ℕ) → length (sha1 m) ≡ 20
unfolding sha1 finished
length-sha1 m = refl
