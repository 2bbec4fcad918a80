use Rattle.std.proofs.Common.{refl}
use Rattle.sha1_digest.specs.Compression.{mix_of, constant_of}
use Rattle.sha1_digest.proofs.Twenties.{compressed}
use Rattle.sha1_digest.proofs.compression.compress.Goals as goal

pub twenty-s20-requires-clause-mixes : goal.twenty-s20-requires-clause-mixes
unfolding mix_of
twenty-s20-requires-clause-mixes c = λ x y z r e. e

pub twenty-s20-requires-clause-constant : goal.twenty-s20-requires-clause-constant
unfolding constant_of
twenty-s20-requires-clause-constant c = refl

pub twenty-s40-requires-clause-mixes : goal.twenty-s40-requires-clause-mixes
unfolding mix_of
twenty-s40-requires-clause-mixes c = λ x y z r e. e

pub twenty-s40-requires-clause-constant : goal.twenty-s40-requires-clause-constant
unfolding constant_of
twenty-s40-requires-clause-constant c = refl

pub twenty-s60-requires-clause-mixes : goal.twenty-s60-requires-clause-mixes
unfolding mix_of
twenty-s60-requires-clause-mixes c = λ x y z r e. e

pub twenty-s60-requires-clause-constant : goal.twenty-s60-requires-clause-constant
unfolding constant_of
twenty-s60-requires-clause-constant c = refl

pub twenty-s80-requires-clause-mixes : goal.twenty-s80-requires-clause-mixes
unfolding mix_of
twenty-s80-requires-clause-mixes c = λ x y z r e. e

pub twenty-s80-requires-clause-constant : goal.twenty-s80-requires-clause-constant
unfolding constant_of
twenty-s80-requires-clause-constant c = refl

pub returns : goal.returns
returns c = search (compressed)
