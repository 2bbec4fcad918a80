-- SHA-1 as FIPS 180-4 defines it, of a message that is a list of bytes.
use Rattle.std.specs.Prelude.{ℕ, List, length}
use Rattle.sha1_digest.specs.Compression.{start}
use Rattle.sha1_digest.specs.Finished.{finished}

unfoldable pub sha1 : List ℕ → List ℕ
sha1 m = finished start (length m) m
