-- Calls of constraints, and the names in their bodies.
use Rattle.std.proofs.Common.{◌≡◌, ℕ, List, [], ◌∷◌, map, Result, Ok, Err, refl, ap, ◌∙◌, Bor}
use Rattle.std.specs.HashMap.{HashMap}
use Rattle.pdll_syntax.specs.declared.stmt.Body.{Body}
use Rattle.pdll_syntax.specs.declared.stmt.Body.TheVariants as body
use Rattle.pdll_syntax.specs.declared.stmt.Param.{Param}
use Rattle.pdll_syntax.specs.declared.file.CallDecl.{CallDecl}
use Rattle.rewrite_model.specs.Pattern.{Expr}
use Rattle.rewrite_model.specs.Doing.{Doing, pure, ◌>>◌}
use Rattle.rewrite_model.specs.Names.{Meant, Names, named_together}
use Rattle.rewrite_model.specs.MatchPart.{Constrains, Scene}
use Rattle.rewrite_model.specs.Expanding.{param_names, within, call_params, body_asks, call_constraint}
use Rattle.pdll_expand.specs.declared.expr.Expr.{Expr as ExprNode}
use Rattle.pdll_expand.specs.declared.scene.Meant.{Meant as MeantNode}
use Rattle.pdll_expand.specs.declared.scene.Scene.{Scene as SceneNode}
use Rattle.pdll_expand.specs.View.{expr_of, meant_of, demand_of}
use Rattle.pdll_expand.specs.Scenes.{IsScene, Does, HasExchanged, known}

pub same_kinds : (xs : List MeantNode) → map (λ x. x.kind) (map meant_of xs) ≡ map (λ x. x.kind) xs
same_kinds [] = refl
same_kinds (x ∷ xs) = ap (λ ks. x.kind ∷ ks) (same_kinds xs)

terms : (xs : List MeantNode) → map expr_of (map (λ x. x.is) xs) ≡ map (λ x. x.is) (map meant_of xs)
terms [] = refl
terms (x ∷ xs) = ap (λ ks. expr_of x.is ∷ ks) (terms xs)

pub same_terms : (xs : List MeantNode) (es : List ExprNode) → es ≡ map (λ x. x.is) xs → map expr_of es ≡ map (λ x. x.is) (map meant_of xs)
same_terms xs es h = ap (map expr_of) h ∙ terms xs

-- ---- names

pub none_together : (ns : List (List ℕ)) → named_together {E = Expr} ns [] ≡ []
none_together [] = refl
none_together (n ∷ ns) = refl

pub no_arguments : (q : List ℕ → Constrains) (ps : List Param) → call_params q ps [] ≡ pure tt
no_arguments q [] = refl
no_arguments q (p ∷ ps) = refl

-- ---- bodies

pub body_call : (q : List ℕ → Constrains) (c : CallDecl) (b : Body) (xs : List (Meant Expr)) → (b ≡ body.Absent → ⊥)
    → within (named_together (param_names c.params) xs) (call_params q c.params xs >> body_asks q b) ≡ call_constraint q c b xs
body_call q c body.Absent xs h = absurd (h refl)
body_call q c (body.Braces ss end) xs h = refl
body_call q c (body.One s) xs h = refl
body_call q c (body.Value x) xs h = refl

-- the names of the caller are there again
pub put_back : {E : Type 0} (names : Names Expr) (work : Doing Scene (Unit {0})) (old mid last new : SceneNode) (r : Result (Unit {0}) E)
    → ((t : Scene) → IsScene old t → IsScene mid (record t { names = names }))
    → Does (λ u. u) work mid r last
    → new.kinds ≡ last.kinds → new.places ≡ last.places → new.demands ≡ last.demands → ((n : List ℕ) → known new n ≡ known old n)
    → Does (λ u. u) (within names work) old r new
put_back names work old mid last new (Err e) h d k p s n = tt
put_back names work old mid last new (Ok u) h d k p s n = λ t i.
    let j = (d (record t { names = names }) (h t i)).1 in (
      refl,
      record {
        kinds = k ∙ j.kinds;
        places = p ∙ j.places;
        demands = ap (map demand_of) s ∙ j.demands;
        names = λ m. n m ∙ i.names m;
      },
    )

-- other names are in sight
pub exchanged : {S : Type 0} (names : Names Expr) (old mid : SceneNode) (outer : HashMap (Bor (List ℕ)) MeantNode S) → HasExchanged names old outer mid
    → (t : Scene) → IsScene old t → IsScene mid (record t { names = names })
exchanged names old mid outer e t i = record { kinds = e.kinds ∙ i.kinds; places = e.places ∙ i.places; demands = ap (map demand_of) e.demands ∙ i.demands; names = e.inside }
