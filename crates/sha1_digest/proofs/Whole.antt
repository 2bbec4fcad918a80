use Rattle.std.proofs.Common.{◌≡◌, ℕ, ◌+◌, ◌*◌, List, length, ap, ◌∙◌, arith}
use Rattle.sha1_digest.specs.Compression.{start}
use Rattle.sha1_digest.specs.Finished.{finished}
use Rattle.sha1_digest.specs.Sha1.{sha1}

-- a whole message, with no block before it
pub hashed : {r : List ℕ} (s : List ℕ) → r ≡ finished start (0 * 64 + length s) s → r ≡ sha1 s
unfolding sha1
hashed s e = let d : 0 * 64 + length s ≡ length s = omega arith in e ∙ ap (λ (n : ℕ). finished start n s) d
