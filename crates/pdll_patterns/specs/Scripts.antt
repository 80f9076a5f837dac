-- When the program's names and actions are a script of the model, and what a part of the program does to them.
use Rattle.std.specs.Prelude.{◌≡◌, ℕ, List, map, find, Option, Some, None, option_map, Result, Ok, Err}
use denote.Bor.{Bor}
use Rattle.std.specs.Str.{bytes_eq}
use Rattle.std.specs.HashMap.{get_by}
use Rattle.rewrite_model.specs.Pattern.{Expr, Part, matched}
use Rattle.rewrite_model.specs.Doing.{Doing}
use Rattle.rewrite_model.specs.Names.{Meant, Names as Sight}
use Rattle.rewrite_model.specs.MatchPart.{Scene, meant}
use Rattle.rewrite_model.specs.RewritePart.{Script}
use Rattle.rewrite_model.specs.Expanding.{matched_names}
use Rattle.pdll_expand.specs.declared.scene.Scene.{Scene as SceneNode}
use Rattle.pdll_expand.specs.Scenes.{known, IsScene}
use Rattle.pdll_patterns.specs.declared.names.Names.{Names}
use Rattle.pdll_patterns.specs.declared.script.Script.{Script as ScriptNode}
use Rattle.pdll_patterns.specs.View.{meant_part_of, action_of}

-- what an expression of the match stands for in the rewrite
abbrev pub as_matched : Meant Expr → Meant Part
as_matched x = meant x.kind (matched x.is)

-- what the match has of a name
abbrev pub matched_known : Option (Bor SceneNode) → List ℕ → Option (Meant Part)
matched_known None n = None
matched_known (Some s) n = option_map as_matched (known s.now n)

abbrev pub first_of : Option (Meant Part) → Option (Meant Part) → Option (Meant Part)
first_of (Some x) more = Some x
first_of None more = more

-- what the program has of a name
abbrev pub seen : Names → List ℕ → Option (Meant Part)
seen s n = first_of (option_map meant_part_of (get_by (λ k. bytes_eq n k.now) s.own)) (matched_known s.matched n)

-- the newest of a name
abbrev pub newest_part : Sight Part → List ℕ → Option (Meant Part)
newest_part names n = option_map (λ e. e.1) (find (λ e. bytes_eq e.0 n) names)

-- The model keeps all names, the newest first, and the program of each name the newest.
abbrev pub AreNames : Names → Sight Part → Type 0
AreNames s names = (n : List ℕ) → seen s n ≡ newest_part names n

-- They are those of the match.
abbrev pub HasNames : Names → SceneNode → Type 0
HasNames s scene = (t : Scene) → IsScene scene t → AreNames s (matched_names t.names)

pub record IsScript (s : Names × ScriptNode) (t : Script) : Type 0 where
  pub names : AreNames s.0 t.names
  pub count : s.1.count ≡ t.count
  pub actions : map action_of s.1.actions ≡ t.actions

-- The work gives this and leaves the new script, whatever script of the model the old one is.
abbrev pub Gave : {A B : Type 0} → (A → B) → Doing Script B → Names × ScriptNode → A → Names × ScriptNode → Type 0
Gave of work old a new = (t : Script) → IsScript old t → (of a ≡ (work t).0) × IsScript new (work t).1

-- The same, unless memory fails.
abbrev pub Does : {A B E : Type 0} → (A → B) → Doing Script B → Names × ScriptNode → Result A E → Names × ScriptNode → Type 0
Does of work old (Ok a) new = Gave of work old a new
Does of work old (Err e) new = Unit {0}
