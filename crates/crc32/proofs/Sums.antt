-- All ones at the start and at the end.
use Rattle.std.proofs.Common.{◌≡◌, ap, ◌∙◌, List, ℕ}
use Rattle.crc.specs.Crc.{bytes_from, finished, crc32_of}

pub whole : (s : List ℕ) {c r : ℕ} → c ≡ bytes_from 0xFFFF_FFFF s → r ≡ finished c → r ≡ crc32_of s
unfolding crc32_of
whole s e f = f ∙ ap finished e
