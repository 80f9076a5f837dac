-- A declaration without a fault has a new name.
use Rattle.std.proofs.Common.{◌≡◌, ℕ, Bool, true, false, cond, List, [], ◌∷◌, ◌++◌, Option, Some, None, refl, sym, ap, ◌∙◌}
use Rattle.std.specs.Option.{is_some, unwrap_or}
use Rattle.pdll_syntax.specs.declared.name.Name.{Name}
use Rattle.pdll_syntax.specs.declared.fault.PatFault.{PatFault}
use Rattle.pdll_syntax.specs.declared.fault.PatKind.TheVariants.{Redefined}
use Rattle.pdll_syntax.specs.declared.file.Decl.{Decl}
use Rattle.pdll_syntax.specs.declared.file.Decl.TheVariants.{Pattern, Constraint, Rewrite}
use Rattle.pdll_types.specs.declared.walk.Walk.{Walk}
use Rattle.pdll_types.specs.Signatures.{Declared, signature_of, declared_name}
use Rattle.pdll_types.specs.Mentions.{Mention, heading, inside_decl, mentions}
use Rattle.pdll_types.specs.Names.{where_so, name_twice}
use Rattle.pdll_types.specs.Accepted.{is_before, faults}
use Rattle.pdll_types.specs.Walk.{noted, all_noted, faults_at, seen_of, step, walked, afresh, decl_walked}

either_some : (b : Bool) (f g : PatFault) → cond b (Some f) (Some g) ≡ None → ⊥
either_some true f g h = cc
either_some false f g h = cc

noted_some : (f : PatFault) (l : Option PatFault) → noted f l ≡ None → ⊥
noted_some f None h = cc
noted_some f (Some g) h = either_some (is_before f g) f g h

none_before : (fs : List PatFault) (l : Option PatFault) → all_noted fs l ≡ None → l ≡ None
none_before [] l h = h
none_before (f ∷ fs) l h = absurd (noted_some f l (none_before fs (noted f l) h))

none_noted : (fs : List PatFault) (l : Option PatFault) → all_noted fs l ≡ None → fs ≡ []
none_noted [] l h = refl
none_noted (f ∷ fs) l h = absurd (noted_some f l (none_before fs (noted f l) h))

walked_none : (c : List Declared) (ms : List Mention) (w : Walk) → (walked c ms w).least ≡ None → w.least ≡ None
unfolding step
walked_none c [] w h = h
walked_none c (m ∷ ms) w h = none_before (faults_at c (seen_of w) m) w.least (walked_none c ms (step c m w) h)

first_none : (c : List Declared) (m : Mention) (ms : List Mention) (w : Walk) → (walked c (m ∷ ms) w).least ≡ None → faults_at c (seen_of w) m ≡ []
unfolding step
first_none c m ms w h = none_noted (faults_at c (seen_of w) m) w.least (walked_none c ms (step c m w) h)

heading_none : (c : List Declared) (d : Decl) (w : Walk) → (decl_walked c d w).least ≡ None → faults_at c (seen_of (afresh w)) (heading d) ≡ []
unfolding decl_walked mentions
heading_none c d w h = first_none c (heading d) (inside_decl c d) (afresh w) h

front_none : {A : Type 0} (xs ys : List A) → xs ++ ys ≡ [] → xs ≡ []
front_none [] ys h = refl
front_none (x ∷ xs) ys h = absurd (cc)

none_where : (b : Bool) (at : ℕ) (more : List ℕ) → faults Redefined (where_so b at ++ more) ≡ [] → b ≡ false
none_where true at more h = absurd (cc)
none_where false at more h = refl

not_some : {A : Type 0} (o : Option A) → is_some o ≡ false → o ≡ None
not_some None h = refl
not_some (Some x) h = absurd (cc)

new_among : (c : List Declared) (k n : Name) (more : List ℕ) → Some k ≡ Some n → faults Redefined (where_so (is_some (signature_of c k.text)) k.at ++ more) ≡ []
    → signature_of c n.text ≡ None
new_among c k n more same h =
    ap (λ o. signature_of c (unwrap_or o n).text) (sym same) ∙ not_some (signature_of c k.text) (none_where (is_some (signature_of c k.text)) k.at more h)

new_maybe : (c : List Declared) (o : Option Name) (n : Name) (more : List ℕ) → o ≡ Some n → faults Redefined (name_twice c o ++ more) ≡ [] → signature_of c n.text ≡ None
new_maybe c None n more same h = absurd (cc)
new_maybe c (Some k) n more same h = new_among c k n more same h

no_more : (c : List Declared) (k : Name) → faults Redefined (name_twice c (Some k)) ≡ faults Redefined (name_twice c (Some k) ++ [])
no_more c k = by_test (is_some (signature_of c k.text)) k.at where
  by_test : (b : Bool) (at : ℕ) → faults Redefined (where_so b at) ≡ faults Redefined (where_so b at ++ [])
  by_test true at = refl
  by_test false at = refl

pub new_name : (c : List Declared) (d : Decl) (w : Walk) (n : Name) → (decl_walked c d w).least ≡ None → declared_name d ≡ Some n → signature_of c n.text ≡ None
unfolding faults_at
new_name c (Pattern p) w n h same = new_maybe c p.name n _ same (front_none _ _ (heading_none c (Pattern p) w h))
new_name c (Constraint k) w n h same = new_maybe c (Some k.name) n [] same (sym (no_more c k.name) ∙ front_none _ _ (heading_none c (Constraint k) w h))
new_name c (Rewrite k) w n h same = new_maybe c (Some k.name) n [] same (sym (no_more c k.name) ∙ front_none _ _ (heading_none c (Rewrite k) w h))
