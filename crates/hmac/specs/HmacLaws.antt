-- The size of an HMAC, for callers.
use Rattle.std.specs.Prelude.{ℕ, List, ◌≡◌, length}
use Rattle.sha1_digest.specs.Sha1Laws.{length-sha1}
use Rattle.hmac.specs.Hmac.{hmac_of}

pub length-hmac : (k m : List ℕ) → length (hmac_of k m) ≡ 20
unfolding hmac_of
length-hmac k m = length-sha1 _
