-- What a call answers where its definition gives an outcome.
use Rattle.std.specs.Prelude.{◌≡◌, Result, Ok, Err, ⊤}
use Rattle.mlir_tree.specs.declared.refusal.Refusal.{Refusal}
use Rattle.mlir_tree.specs.declared.refusal.Refusal.TheVariants.{Fault, NoMemory}
use Rattle.rewrite_model.specs.Making.{Outcome}
use Rattle.rewrite_step.specs.declared.stop.Stop.{Stop}
use Rattle.rewrite_step.specs.View.{stop_of}

-- What the definition gives, or what stops it. Want of memory may be answered at any time.
abbrev pub Ends : {A B : Type 0} → (A → B) → Outcome B → Result A (Refusal Stop) → Type 0
Ends view o (Ok a) = o ≡ Ok (view a)
Ends view o (Err (Fault s)) = o ≡ Err (stop_of s)
Ends view o (Err NoMemory) = ⊤
