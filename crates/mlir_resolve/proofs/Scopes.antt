-- What a map of names says of the definitions that it stands for.
use Rattle.std.proofs.Common.{◌≡◌, ℕ, Bool, true, false, cond, List, [], ◌∷◌, ◌++◌, map, Option, Some, None, refl, sym, ap, ◌∙◌, Bor}
use Rattle.std.specs.Prelude.{Result, Ok, Err, if◌then◌else◌}
use Rattle.indexmap.specs.IndexMap.{insert_entry}
use Rattle.mlir_attributes.specs.declared.fault.ModFault.{ModFault}
use Rattle.mlir_attributes.specs.declared.fault.ModKind.TheVariants as faults
use Rattle.std.specs.Option.{option_map, is_some}
use Rattle.std.specs.Bool.{Decides}
use Rattle.std.specs.Map.{lookup}
use Rattle.std.specs.Str.{bytes_eq}
use Rattle.std.proofs.lemmas.Slice.Eq.{bytes_eq-Decides}
use Rattle.mlir_resolve.specs.declared.named.Named.{Named}
use Rattle.mlir_resolve.specs.Sight.{Definition}
use Rattle.mlir_resolve.specs.Scopes.{named, find_name, put_name}

abbrev pub definition_of : Bor (List ℕ) × Named → Definition
definition_of e = named e.0.now e.1

find_step : (q k : List ℕ) (n : Named) (b : Bool) → Decides b (q ≡ k) → (r : Option Named) (s : Option Definition)
    → option_map (named q) r ≡ s → option_map (named q) (cond b (Some n) r) ≡ cond b (Some (named k n)) s
find_step q k n true d r s h = ap (λ x. Some (named x n)) (d.0 refl)
find_step q k n false d r s h = h

pub find_entries : (q : List ℕ) (es : List (Bor (List ℕ) × Named))
    → option_map (named q) (lookup (λ (k : Bor (List ℕ)). bytes_eq q k.now) es) ≡ find_name q (map definition_of es)
find_entries q [] = refl
find_entries q (e ∷ es) = find_step q e.0.now e.1 (bytes_eq q e.0.now) (bytes_eq-Decides q e.0.now) _ _ (find_entries q es)

last_step : (q : Bor (List ℕ)) (n : Named) (e : Bor (List ℕ) × Named) (es put : List (Bor (List ℕ) × Named)) (o : Option Named) (b : Bool)
    → (o ≡ None → map definition_of put ≡ map definition_of es ++ named q.now n ∷ []) → cond b (Some e.1) o ≡ None
    → map definition_of (cond b ((e.0, n) ∷ es) (e ∷ put)) ≡ map definition_of (e ∷ es) ++ named q.now n ∷ []
last_step q n e es put o true h p = absurd (cc)
last_step q n e es put o false h p = ap (λ ds. definition_of e ∷ ds) (h p)

-- a new name goes last
pub goes_last : (q : Bor (List ℕ)) (n : Named) (es : List (Bor (List ℕ) × Named)) → lookup (λ (k : Bor (List ℕ)). bytes_eq q.now k.now) es ≡ None
    → map definition_of (insert_entry (λ (x y : Bor (List ℕ)). bytes_eq x.now y.now) es q n) ≡ map definition_of es ++ named q.now n ∷ []
goes_last q n [] p = refl
goes_last q n (e ∷ es) p = last_step q n e es (insert_entry (λ (x y : Bor (List ℕ)). bytes_eq x.now y.now) es q n) _ (bytes_eq q.now e.0.now) (goes_last q n es) p

abbrev put_or : ℕ → List Definition → Option Definition → Result (List Definition) ModFault
put_or at scope o = if is_some o then Err (record { kind = faults.Redefined; at = at }) else Ok scope

pub put_new : (q : Bor (List ℕ)) (n : Named) (at : ℕ) (es : List (Bor (List ℕ) × Named)) → lookup (λ (k : Bor (List ℕ)). bytes_eq q.now k.now) es ≡ None
    → put_name (map definition_of es) at (named q.now n) ≡ Ok (map definition_of (insert_entry (λ (x y : Bor (List ℕ)). bytes_eq x.now y.now) es q n))
put_new q n at es p =
    ap (put_or at (map definition_of es ++ named q.now n ∷ [])) (sym (find_entries q.now es) ∙ ap (option_map (named q.now)) p)
    ∙ ap (λ s. Ok s) (sym (goes_last q n es p))

pub put_old : (q : Bor (List ℕ)) (n old : Named) (at : ℕ) (es : List (Bor (List ℕ) × Named)) → lookup (λ (k : Bor (List ℕ)). bytes_eq q.now k.now) es ≡ Some old
    → put_name (map definition_of es) at (named q.now n) ≡ Err (record { kind = faults.Redefined; at = at })
put_old q n old at es p =
    ap (put_or at (map definition_of es ++ named q.now n ∷ [])) (sym (find_entries q.now es) ∙ ap (option_map (named q.now)) p)
