-- What is known of an attribute that was found, and of one that was told by its place and size.
use Prim.Native.Nat.{ℕ, ◌+◌, ◌-◌, ◌≤◌}
use Rattle.std.specs.Prelude.{List, [], ◌∷◌, Bool, true, false, ◌≡◌, refl, length, get_or, take, drop, eqb, Option, Some, None}
use Rattle.std.proofs.Common.{sym, ◌∙◌, subst, arith, eqb-true, length-take, length-drop}
use Rattle.std.proofs.Math.Path.{ap}
use Rattle.base.specs.Choice.{pick}
use Rattle.attribute.specs.Attribute.{Attr, Body, stop, more, attrs, bytes_of, parse}
use Rattle.attribute.specs.WalkLaws.{At, beyond, ended, short, long, attribute, view, Ahead, ahead}
use Rattle.attribute.proofs.BodyLaws.{body_of, unroll}
use Rattle.attribute.specs.Visits as visits
use Rattle.attribute.proofs.ScanLaws.{found_length}
use Rattle.attribute.specs.declared.Walk.{Walk}
use Rattle.registry.specs.declared.Row.{Row}
use Rattle.read_first.specs.declared.Found.{Found}
use Rattle.read_first.specs.First.{Place, none, starts, first_from, first_in, is_whole, first, first_said, placed, is_there, value_of, value_at}

-- it has the type, and its value stands four bytes behind its place
pub record Lies (d : List ℕ) (k p : ℕ) (a : Attr) : Type 0 where
  pub kind : a.kind ≡ k
  pub low : 20 ≤ p
  pub inside : p + 4 + length a.value ≤ length d
  pub value : take (length a.value) (drop (p + 4) d) ≡ a.value

-- the first of a list is its head or the first of what is left
pub data Heads (k p : ℕ) (a b : Attr) (q : ℕ) (xs : List Attr) : Type 0 where
  head : a.kind ≡ k → p ≡ q → a ≡ b → Heads k p a b q xs
  later : first_from k (p + length (bytes_of a)) xs ≡ starts q b → Heads k p a b q xs

pub heads : (k p : ℕ) (a b : Attr) (q : ℕ) (xs : List Attr) → first_from k p (a ∷ xs) ≡ starts q b → Heads k p a b q xs
unfolding first_from
heads k p a b q xs e = go (eqb a.kind k) refl e
  where
    go : (t : Bool) → eqb a.kind k ≡ t → pick t (starts p a) (first_from k (p + length (bytes_of a)) xs) ≡ starts q b → Heads k p a b q xs
    go true f g = head (eqb-true a.kind k f) (cc) (cc)
    go false f g = later g

pub nowhere : (k p : ℕ) {q : ℕ} {a : Attr} → first_from k p [] ≡ starts q a → ⊥
unfolding first_from is_there
nowhere k p e = let z : false ≡ true = ap is_there e in let y : ◌≡◌ {A = ℕ} 0 1 = cc in omega arith

-- an attribute of the bytes, as the walk at its place sees it
pub record Here (d : List ℕ) (p : ℕ) (a : Attr) (b : Body) : Type 0 where
  pub inside : p + 4 + length a.value ≤ length d
  pub value : take (length a.value) (drop (p + 4) d) ≡ a.value
  pub rest : parse 0 (drop (p + length (bytes_of a)) d) ≡ b

never : {r : List ℕ} {a : Attr} {b : Body} → stop r ≡ more a b → ⊥
never e = let z : ◌≡◌ {A = ℕ} 0 1 = cc in omega arith

sized : (k : ℕ) {d : List ℕ} {p q v n x : ℕ} → Ahead d p q v n x → length (visits.found d k v n x).value ≡ n
sized k g = simp (length-take, length-drop) (omega (arith, g))

seen_here : (k : ℕ) {d : List ℕ} {p q v n x : ℕ} → Ahead d p q v n x → Here d p (visits.found d k v n x) (parse 0 (drop x d))
seen_here k {d} {p} {q} {v} {n} {x} g =
    let i : length (take n (drop v d)) ≡ n = sized k g in
    record {
      inside = omega (arith, g, i);
      value = rw (i, ← g.value_at_lem);
      rest = ap (λ (y : ℕ). parse 0 (drop y d)) (found_length k g);
    }

as_found : (k : ℕ) {d : List ℕ} {p q v n x : ℕ} {a : Attr} {b : Body} → Ahead d p q v n x → more (visits.found d k v n x) (parse 0 (drop x d)) ≡ more a b
    → Here d p a b
as_found k {d} {p} {q} {v} {n} {x} {a} {b} g e =
    let i : visits.found d k v n x ≡ a = cc in
    let j : parse 0 (drop x d) ≡ b = cc in
    subst (λ (y : Attr). Here d p y b) i (subst (λ (y : Body). Here d p (visits.found d k v n x) y) j (seen_here k g))

here : (d : List ℕ) (p : ℕ) {w : Walk} (a : Attr) (b : Body) → At d p w → body_of d w ≡ more a b → Here d p a b
here d p a b (beyond h) e = absurd (never e)
here d p a b (ended h) e = absurd (never e)
here d p a b (short h l) e = absurd (never e)
here d p a b (long h l) e = absurd (never e)
here d p a b (attribute h) e = as_found _ (ahead (attribute h)) e

-- the attribute that stands at a place, and what follows it
pub there : (d : List ℕ) (p : ℕ) (a : Attr) (b : Body) → parse 0 (drop p d) ≡ more a b → Here d p a b
there d p a b e = here d p a b (view d p) (sym (unroll (view d p)) ∙ e)

lies_one : (d : List ℕ) (k p : ℕ) (c a : Attr) (b : Body) (q : ℕ) → 20 ≤ p → Here d p c b → Heads k p c a q (attrs b)
    → (first_from k (p + length (bytes_of c)) (attrs b) ≡ starts q a → Lies d k q a) → Lies d k q a
lies_one d k p c a b q l g (head h i j) r =
    let f : Lies d k p c = record { kind = h; low = l; inside = g.inside; value = g.value } in
    subst (λ (y : Attr). Lies d k q y) j (subst (λ (y : ℕ). Lies d k y c) i f)
lies_one d k p c a b q l g (later h) r = r h

lies_from : (d : List ℕ) (k p : ℕ) (b : Body) {q : ℕ} {a : Attr} → 20 ≤ p → parse 0 (drop p d) ≡ b → first_from k p (attrs b) ≡ starts q a → Lies d k q a
lies_from d k p (stop r) l e f = absurd (nowhere k p f)
lies_from d k p (more c b) {q} {a} l e f =
    let g : Here d p c b = there d p c b e in
    lies_one d k p c a b q l g (heads k p c a q (attrs b) f) (λ h. lies_from d k (p + length (bytes_of c)) b (omega arith) g.rest h)

pub lies : (d : List ℕ) (k : ℕ) {p : ℕ} {a : Attr} → first_in k d ≡ starts p a → Lies d k p a
unfolding first_in
lies d k e = lies_from d k 20 (parse 0 (drop 20 d)) (omega arith) refl e

-- the attribute of which place and size were told
pub record Told (x : Place) (p n : ℕ) : Type 0 where
  pub attr : Attr
  pub is : x ≡ starts p attr
  pub size : length attr.value ≡ n

told_of : (x : Place) {p n : ℕ} → placed x ≡ Some (record { at = p; size = n }) → Told x p n
unfolding placed first_said
told_of none e = let z : ◌≡◌ {A = ℕ} 0 1 = cc in absurd (omega arith)
told_of (starts q a) e =
    let value : ℕ → Option Found → ℕ = λ i o. get_or (first_said o).values i 0 in
    record { attr = a; is = ap (λ (r : ℕ). starts r a) (ap (value 0) e); size = ap (value 1) e }

pub told : (x : Place) {f : Option Found} {y : Found} → f ≡ placed x → f ≡ Some y → Told x y.at y.size
told x e g = told_of x (sym e ∙ g)

-- what place and size say of the bytes
pub record Part (d : List ℕ) (x : Place) (p n : ℕ) : Type 0 where
  pub there : is_there x ≡ true
  pub low : 20 ≤ p
  pub inside : p + 4 + n ≤ length d
  pub value : take n (drop (p + 4) d) ≡ value_of x
  pub at : p + 4 ≡ value_at x

part_of : {d : List ℕ} {k : ℕ} {x : Place} {p n : ℕ} (t : Told x p n) → Lies d k p t.attr → Part d x p n
unfolding is_there value_of value_at
part_of t l = record {
  there = rw t.is;
  low = l.low;
  inside = omega (arith, l.inside, t.size);
  value = rw (t.is, ← t.size) l.value;
  at = rw t.is;
}

-- a type is there only in a whole datagram
pub only_whole : (rows : List Row) (k : ℕ) (d : List ℕ) {p : ℕ} {a : Attr} → first rows k d ≡ starts p a → (is_whole rows d ≡ true) × (first_in k d ≡ starts p a)
unfolding first is_there
only_whole rows k d {p} {a} e = go (is_whole rows d) refl e
  where
    go : (b : Bool) → is_whole rows d ≡ b → pick b (first_in k d) none ≡ starts p a → (b ≡ true) × (first_in k d ≡ starts p a)
    go true f g = (refl, g)
    go false f g = let z : false ≡ true = ap is_there g in let y : ◌≡◌ {A = ℕ} 0 1 = cc in absurd (omega arith)

module _ (d : List ℕ) (k : ℕ) {f : Option Found} {y : Found} where
  pub part_in : f ≡ placed (first_in k d) → f ≡ Some y → Part d (first_in k d) y.at y.size
  part_in e g = let t : Told (first_in k d) y.at y.size = told (first_in k d) e g in part_of t (lies d k t.is)

  pub part : (rows : List Row) → f ≡ placed (first rows k d) → f ≡ Some y → Part d (first rows k d) y.at y.size
  part rows e g =
      let t : Told (first rows k d) y.at y.size = told (first rows k d) e g in
      part_of t (lies d k (only_whole rows k d t.is).1)

-- what is told as absent is nowhere
absent_of : (x : Place) → placed x ≡ None → x ≡ none
unfolding placed
absent_of none e = refl
absent_of (starts p a) e = let z : ◌≡◌ {A = ℕ} 0 1 = cc in absurd (omega arith)

pub absent : (x : Place) {f : Option Found} → f ≡ placed x → f ≡ None → x ≡ none
absent x e g = absent_of x (sym e ∙ g)

-- the part that code cuts out of the bytes, and where it lies
module _ (rows : List Row) (d : List ℕ) (k : ℕ) {f : Option Found} (e : f ≡ placed (first rows k d)) where
  pub nothing : f ≡ None → [] ≡ value_of (first rows k d)
  unfolding value_of
  nothing g = ap value_of (sym (absent (first rows k d) e g))

  pub nothing_at : (b o : ℕ) → f ≡ None → ◌≡◌ {A = ℕ × ℕ} (b, 0 + o) (b, value_at (first rows k d) + o)
  unfolding value_at
  nothing_at b o g = ap {B = ℕ × ℕ} (λ x. (b, value_at x + o)) (sym (absent (first rows k d) e g))

  module _ {y : Found} (g : f ≡ Some y) where
    pub room : y.at + 4 + y.size ≤ length d
    room = (part d k rows e g).inside

    pub value : take (y.at + 4 + y.size - (y.at + 4)) (drop (y.at + 4) d) ≡ value_of (first rows k d)
    value =
        let m : y.at + 4 + y.size - (y.at + 4) ≡ y.size = omega arith in
        ap (λ (n : ℕ). take n (drop (y.at + 4) d)) m ∙ (part d k rows e g).value

    pub value_at_lem : (b o : ℕ) → ◌≡◌ {A = ℕ × ℕ} (b, y.at + 4 + o) (b, value_at (first rows k d) + o)
    value_at_lem b o = ap {B = ℕ × ℕ} (λ n. (b, n + o)) (part d k rows e g).at
