-- What `values`, `judged` and `read` return, case by case.
use Rattle.std.specs.Prelude.{ℕ, ◌≤◌, List, ◌≡◌, length, Result, Ok, Err}
use Rattle.std.proofs.Common.{sym, ap, ◌∙◌, subst, eq-eqb, ne_eqb}
use Rattle.wire.specs.declared.refusal.Refusal.{Refusal}
use Rattle.header.specs.Header.{header_fault, header_of, told}
use Rattle.header.specs.HeaderLaws.{GoodHead, good_head, Not, refused, long}
use Rattle.header.specs.declared.Header.{Header}
use Rattle.attribute.specs.Scan.{Scan, scanned}
use Rattle.attribute.specs.declared.Fault.{Fault}
use Rattle.registry.specs.Rows.{rfc5389}
use Rattle.read_fingerprints.specs.Fingerprints.{print_faults, prints_from}
use Rattle.read_fingerprints.specs.FingerprintsLaws.{comes_to_lem}
use Rattle.read_message.specs.Front.{Values}
use Rattle.read_message.specs.Reading.{and_then, outcome, reading_of}
use Rattle.read_message.specs.declared.Front.{Front}

module _ (d : List ℕ) {w : Result Front Fault} (e : Values d w) where
  pub first : {f : Fault} → w ≡ Err f → Err f ≡ outcome rfc5389 d
  unfolding outcome
  first g = sym (ap (λ (x : Scan). and_then x (scanned (print_faults d) d)) (subst (Values d) g e))

  pub second : {f : Front} {t : Scan} → w ≡ Ok f → t ≡ prints_from d f.at f.count → t ≡ outcome rfc5389 d
  unfolding outcome
  second g h =
      let v = subst (Values d) g e in
      comes_to_lem v.1 h ∙ sym (ap (λ (x : Scan). and_then x (scanned (print_faults d) d)) v.0.1)

module _ (d : List ℕ) {w : Result Header Refusal} (e : w ≡ header_of d) where
  pub read_refused : {r : Refusal} → w ≡ Err r → Err r ≡ reading_of rfc5389 d
  unfolding reading_of
  read_refused {r} f =
      let n : Not d r = refused d (sym e ∙ f) in
      ap (λ (x : Refusal). Err x) n.refusal ∙ simp (ne_eqb (header_fault d) 0 n.some)

  module _ {h : Header} (f : w ≡ Ok h) where
    good : GoodHead d h
    good = good_head d (sym e ∙ f)

    pub read_long : 20 ≤ length d
    read_long = long d good.fault

    pub read_good : {s : Scan} → s ≡ outcome rfc5389 d
        → Ok (record { class = h.class; method = h.method; id = h.id; attributes = s }) ≡ reading_of rfc5389 d
    unfolding reading_of told
    read_good {s} g = simp (eq-eqb (header_fault d) 0 good.fault) (rw (good.header, g))
