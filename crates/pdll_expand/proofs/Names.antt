-- Names of the model, and what the program has of them.
use Rattle.std.proofs.Common.{◌≡◌, Bool, true, false, cond, ℕ, List, ◌∷◌, Option, Some, None, refl, sym, ap, ◌∙◌, Bor}
use Rattle.std.specs.Option.{option_map, option_map_or, unwrap_or}
use Rattle.std.specs.HashMap.{HashMap, get_by, UpdatesBy}
use Rattle.std.specs.Str.{bytes_eq}
use Rattle.std.specs.Prelude.{find}
use Rattle.std.proofs.lemmas.Map.Text.{hash_map_updates_str}
use Rattle.rewrite_model.specs.Pattern.{Expr}
use Rattle.rewrite_model.specs.Names.{Meant, Names, meaning}
use Rattle.pdll_expand.specs.declared.scene.Meant.{Meant as MeantNode}
use Rattle.pdll_expand.specs.View.{meant_of}
use Rattle.pdll_expand.specs.Scenes.{newest}

map_or : {A B : Type 0} (f : A → B) (o : Option A) (d : B) → option_map_or f o d ≡ unwrap_or (option_map f o) d
map_or f None d = refl
map_or f (Some x) d = refl

-- the meaning of a name is the newest
pub meaning_is : (names : Names Expr) (n : List ℕ) (d : Meant Expr) → unwrap_or (newest names n) d ≡ meaning names n d
meaning_is names n d = sym (map_or (λ e. e.1) (find (λ e. bytes_eq e.0 n) names) d)

one_more : (b : Bool) (n : List ℕ) (x : MeantNode) (o : Option MeantNode) (p : Option (List ℕ × Meant Expr))
    → option_map meant_of o ≡ option_map (λ e. e.1) p
    → option_map meant_of (cond b (Some x) o) ≡ option_map (λ e. e.1) (cond b (Some (n, meant_of x)) p)
one_more true n x o p h = refl
one_more false n x o p h = h

-- a name that comes into sight
pub seen : {S : Type 0} (name : List ℕ) (x : MeantNode) (old new : HashMap (Bor (List ℕ)) MeantNode S) (names : Names Expr)
    → UpdatesBy (λ x y. bytes_eq x.now y.now) (λ k. bytes_eq name k.now) old new (Some x)
    → ((n : List ℕ) → option_map meant_of (get_by (λ k. bytes_eq n k.now) old) ≡ newest names n)
    → (n : List ℕ) → option_map meant_of (get_by (λ k. bytes_eq n k.now) new) ≡ newest ((name, meant_of x) ∷ names) n
seen name x old new names u h n =
    ap (option_map meant_of) (hash_map_updates_str name old new (Some x) u n)
    ∙ one_more (bytes_eq name n) name x (get_by (λ k. bytes_eq n k.now) old) (find (λ e. bytes_eq e.0 n) names) (h n)
