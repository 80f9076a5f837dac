-- Names of the model, and what the program has of them.
use Rattle.std.proofs.Common.{◌≡◌, Bool, true, false, cond, ℕ, List, [], ◌∷◌, find, Option, Some, None, option_map, refl, sym, ap, ◌∙◌}
use Rattle.std.specs.Option.{option_map_or, unwrap_or}
use Rattle.std.specs.HashMap.{get_by, UpdatesBy}
use Rattle.std.specs.Str.{bytes_eq}
use Rattle.std.proofs.lemmas.Map.Text.{hash_map_updates_str}
use Rattle.rewrite_model.specs.Pattern.{Expr, Part}
use Rattle.rewrite_model.specs.Names.{Meant, Names as Sight, meaning}
use Rattle.rewrite_model.specs.Expanding.{matched_names}
use Rattle.pdll_expand.specs.Scenes.{newest}
use Rattle.pdll_patterns.specs.declared.names.MeantPart.{MeantPart}
use Rattle.pdll_patterns.specs.declared.names.Names.{Names}
use Rattle.pdll_patterns.specs.View.{meant_part_of}
use Rattle.pdll_patterns.specs.Scripts.{as_matched, matched_known, first_of, newest_part, AreNames}

map_or : {A B : Type 0} (f : A → B) (o : Option A) (d : B) → option_map_or f o d ≡ unwrap_or (option_map f o) d
map_or f None d = refl
map_or f (Some x) d = refl

-- the meaning of a name is the newest
pub meaning_is : (names : Sight Part) (n : List ℕ) (d : Meant Part) → unwrap_or (newest_part names n) d ≡ meaning names n d
meaning_is names n d = sym (map_or (λ e. e.1) (find (λ e. bytes_eq e.0 n) names) d)

one_more : (b : Bool) (n : List ℕ) (x : MeantPart) (o : Option MeantPart) (more : Option (Meant Part)) (p : Option (List ℕ × Meant Part))
    → first_of (option_map meant_part_of o) more ≡ option_map (λ e. e.1) p
    → first_of (option_map meant_part_of (cond b (Some x) o)) more ≡ option_map (λ e. e.1) (cond b (Some (n, meant_part_of x)) p)
one_more true n x o more p h = refl
one_more false n x o more p h = h

-- a name that comes into sight
pub saw : (name : List ℕ) (x : MeantPart) (old new : Names) (names : Sight Part)
    → UpdatesBy (λ x y. bytes_eq x.now y.now) (λ k. bytes_eq name k.now) old.own new.own (Some x)
    → old.matched ≡ new.matched
    → AreNames old names → AreNames new ((name, meant_part_of x) ∷ names)
saw name x old new names u m h n =
    ap (λ o. first_of (option_map meant_part_of o) (matched_known new.matched n)) (hash_map_updates_str name old.own new.own (Some x) u n)
    ∙ (ap (λ o. first_of (option_map meant_part_of (cond (bytes_eq name n) (Some x) (get_by (λ k. bytes_eq n k.now) old.own))) (matched_known o n)) (sym m)
    ∙ one_more (bytes_eq name n) name x (get_by (λ k. bytes_eq n k.now) old.own) (matched_known old.matched n) (find (λ e. bytes_eq e.0 n) names) (h n))

carried : (b : Bool) (e : List ℕ × Meant Expr) (o : Option (List ℕ × Meant Expr)) (p : Option (List ℕ × Meant Part))
    → option_map as_matched (option_map (λ f. f.1) o) ≡ option_map (λ f. f.1) p
    → option_map as_matched (option_map (λ f. f.1) (cond b (Some e) o)) ≡ option_map (λ f. f.1) (cond b (Some (e.0, as_matched e.1)) p)
carried true e o p h = refl
carried false e o p h = h

-- the names of a match
pub newest_matched : (names : Sight Expr) (n : List ℕ) → option_map as_matched (newest names n) ≡ newest_part (matched_names names) n
newest_matched [] n = refl
newest_matched (e ∷ names) n =
    carried (bytes_eq e.0 n) e (find (λ f. bytes_eq f.0 n) names) (find (λ f. bytes_eq f.0 n) (matched_names names)) (newest_matched names n)
