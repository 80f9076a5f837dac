-- When the program's scene is one of the model, and what a part of the program does to it.
use Rattle.std.specs.Prelude.{◌≡◌, ℕ, List, map, find, Option, option_map, Result, Ok, Err}
use Rattle.std.specs.Borrow.{Bor}
use Rattle.std.specs.Str.{bytes_eq}
use Rattle.std.specs.HashMap.{HashMap, get_by}
use Rattle.rewrite_model.specs.Pattern.{Expr}
use Rattle.rewrite_model.specs.Doing.{Doing}
use Rattle.rewrite_model.specs.Names.{Meant, Names}
use Rattle.rewrite_model.specs.MatchPart.{Scene}
use Rattle.rewrite_model.specs.Own.{Own}
use Rattle.pdll_expand.specs.declared.scene.Scene.{Scene as SceneNode}
use Rattle.pdll_expand.specs.declared.scene.Own.{Own as OwnNode}
use Rattle.pdll_expand.specs.declared.scene.Meant.{Meant as MeantNode}
use Rattle.pdll_expand.specs.declared.pattern.Match.{Match as MatchNode}
use Rattle.pdll_expand.specs.View.{demand_of, meant_of}

-- what the program has of a name
abbrev pub known : SceneNode → List ℕ → Option (Meant Expr)
known s n = option_map meant_of (get_by (λ k. bytes_eq n k.now) s.names)

-- the newest of a name
abbrev pub newest : Names Expr → List ℕ → Option (Meant Expr)
newest names n = option_map (λ e. e.1) (find (λ e. bytes_eq e.0 n) names)

-- they are these names, each with what the newest of it stands for
abbrev pub AreNames : {S : Type 0} → HashMap (Bor (List ℕ)) MeantNode S → Names Expr → Type 0
AreNames m names = (n : List ℕ) → option_map meant_of (get_by (λ k. bytes_eq n k.now) m) ≡ newest names n

-- These names are in sight in the place of others.
pub record HasExchanged {S : Type 0} (names : Names Expr) (old : SceneNode) (outer : HashMap (Bor (List ℕ)) MeantNode S) (new : SceneNode) : Type 0 where
  pub kinds : new.kinds ≡ old.kinds
  pub places : new.places ≡ old.places
  pub demands : new.demands ≡ old.demands
  pub inside : (n : List ℕ) → known new n ≡ newest names n
  pub outside : (n : List ℕ) → known old n ≡ option_map meant_of (get_by (λ k. bytes_eq n k.now) outer)

-- The model keeps all names, the newest first, and the program of each name the newest.
pub record IsScene (s : SceneNode) (t : Scene) : Type 0 where
  pub kinds : s.kinds ≡ t.kinds
  pub places : s.places ≡ t.places
  pub demands : map demand_of s.demands ≡ t.demands
  pub names : (n : List ℕ) → known s n ≡ newest t.names n

-- The work gives this and leaves the new scene, whatever scene of the model the old one is.
abbrev pub Gave : {A B : Type 0} → (A → B) → Doing Scene B → SceneNode → A → SceneNode → Type 0
Gave of work old a new = (t : Scene) → IsScene old t → (of a ≡ (work t).0) × IsScene new (work t).1

-- The same, unless memory fails.
abbrev pub Does : {A B E : Type 0} → (A → B) → Doing Scene B → SceneNode → Result A E → SceneNode → Type 0
Does of work old (Ok a) new = Gave of work old a new
Does of work old (Err e) new = Unit {0}

-- What stands there of a declaration by itself.
pub record IsOwn (o : OwnNode) (p : Own) : Type 0 where
  pub kinds : o.scene.kinds ≡ p.scene.kinds
  pub places : o.scene.places ≡ p.scene.places
  pub demands : map demand_of o.scene.demands ≡ p.scene.demands
  pub given : o.given ≡ p.given

-- What was read of a match, and its root.
abbrev pub IsMatch : MatchNode → ℕ × Scene → Type 0
IsMatch x p = (x.root ≡ p.0) × IsScene x.scene p.1
