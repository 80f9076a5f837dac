-- The module of the tests, which is laid out.
use Rattle.std.proofs.Common.{◌≡◌, ◌+◌, ◌++◌, ◌<◌, ◌^◌, ℕ, zero, suc, ap, ◌∙◌, List, [], ◌∷◌, length, drop, replicate, Option, Some, None, refl, arith, rules}
use Rattle.std.specs.Prelude.{codes, All, IsSome}
use Rattle.std.specs.List.{IsDistinct}
use Rattle.std.proofs.lemmas.List.Elements.{All-nil, All-from_recursion}
use Rattle.mlir_tree.specs.declared.row.Home.{Home}
use Rattle.mlir_tree.specs.declared.row.Row.{Row}
use Rattle.mlir_tree.specs.declared.value.Val.{Val}
use Rattle.mlir_tree.specs.declared.value.Val.TheVariants.{Res}
use Rattle.mlir_tree.specs.Tree.{Ty, index}
use Rattle.mlir_tree.specs.Module.{enclosing}
use Rattle.mlir_tree.specs.WellFormed.{AreNumbered, AreNested, HasDictionaries, HasSizes}
use Rattle.mlir_tree.proofs.NestedByTest.{nested_by_test}
use Rattle.rewrite_model.specs.Laws.{IsLaidOut}

abbrev pub op : ℕ → Option Home → List ℕ → List Val → ℕ → ℕ → Row
op id home name operands results inner =
    record { id = id; home = home; name = name; operands = operands; results = replicate results index; props = []; attrs = []; regions = replicate inner [] }

abbrev pub within : ℕ → Option Home
within row = Some (record { row = row; region = 0 })

abbrev pub reshapes : List Row
reshapes =
    op 0 None (codes "builtin.module") [] 0 1
    ∷ op 1 (within 0) (codes "t.source") [] 2 0
    ∷ op 2 (within 0) (codes "t.reshape") (Res 1 0 ∷ []) 1 0
    ∷ op 3 (within 0) (codes "t.reshape") (Res 2 0 ∷ []) 1 0
    ∷ op 4 (within 0) (codes "t.use") (Res 3 0 ∷ Res 1 1 ∷ []) 0 1
    ∷ op 5 (within 4) (codes "t.inner") [] 0 0
    ∷ []

bare : (id : ℕ) (home : Option Home) (name : List ℕ) (operands : List Val) (results inner : ℕ) → HasDictionaries (op id home name operands results inner)
bare id home name operands results inner = record {
  properties = tt;
  attributes = tt;
  apart = λ n p q. absurd (omega (arith, p.1));
}

abbrev few : List Ty → Type 0
few arguments = length arguments < 2 ^ 16

are_numbered : AreNumbered (record { rows = reshapes; next = 6 })
unfolding IsDistinct
are_numbered = record {
  differ = ((refl, (refl, (refl, (refl, (refl, tt))))), ((refl, (refl, (refl, (refl, tt)))), ((refl, (refl, (refl, tt))), ((refl, (refl, tt)), ((refl, tt), (tt, tt))))));
  below_next = All-from_recursion (λ r. r.id < 6) reshapes (omega arith, (omega arith, (omega arith, (omega arith, (omega arith, (omega arith, tt))))));
  begins = (
    record { number = refl; no_home = refl; name = refl; one_region = refl; no_operands = refl; no_results = refl },
    All-from_recursion (λ s. IsSome s.home) (drop 1 reshapes) (search rules, (search rules, (search rules, (search rules, (search rules, tt))))),
  );
}

are_nested : AreNested reshapes
unfolding enclosing
are_nested = nested_by_test reshapes refl

with_region : All few ([] ∷ [])
with_region = All-from_recursion few ([] ∷ []) (omega arith, tt)

have_sizes : All HasSizes reshapes
have_sizes =
    All-from_recursion HasSizes reshapes (
      record { operands = omega arith; results = omega arith; regions = omega arith; arguments = with_region },
      (
        record { operands = omega arith; results = omega arith; regions = omega arith; arguments = All-nil few },
        (
          record { operands = omega arith; results = omega arith; regions = omega arith; arguments = All-nil few },
          (
            record { operands = omega arith; results = omega arith; regions = omega arith; arguments = All-nil few },
            (
              record { operands = omega arith; results = omega arith; regions = omega arith; arguments = with_region },
              (record { operands = omega arith; results = omega arith; regions = omega arith; arguments = All-nil few }, tt),
            ),
          ),
        ),
      ),
    )

pub are_laid_out : IsLaidOut (record { rows = reshapes; next = 6 })
are_laid_out = record {
  numbers = are_numbered;
  nesting = are_nested;
  dictionaries =
      All-from_recursion HasDictionaries reshapes (
        bare 0 None (codes "builtin.module") [] 0 1,
        (
          bare 1 (within 0) (codes "t.source") [] 2 0,
          (
            bare 2 (within 0) (codes "t.reshape") (Res 1 0 ∷ []) 1 0,
            (
              bare 3 (within 0) (codes "t.reshape") (Res 2 0 ∷ []) 1 0,
              (bare 4 (within 0) (codes "t.use") (Res 3 0 ∷ Res 1 1 ∷ []) 0 1, (bare 5 (within 4) (codes "t.inner") [] 0 0, tt)),
            ),
          ),
        ),
      );
  sizes = have_sizes;
}

one_later : {X : Type 0} (n : ℕ) (x : X) → replicate n x ++ x ∷ [] ≡ replicate (suc n) x
one_later zero x = refl
one_later (suc n) x = ap (λ l. x ∷ l) (one_later n x)

-- one more of the same
pub one_more : {X : Type 0} (n : ℕ) (x : X) → replicate n x ++ x ∷ [] ≡ replicate (n + 1) x
one_more n x = one_later n x ∙ (let e : suc n ≡ n + 1 = omega arith in ap (λ k. replicate k x) e)
