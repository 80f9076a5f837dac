-- Modules that are printable, and the rows that they read back as.
use Rattle.std.proofs.Common.{◌≡◌, ℕ, true, false, List, [], ◌∷◌, None, refl, arith}
use Rattle.std.specs.Prelude.{codes, nat_lt}
use Rattle.std.specs.List.{list_all}
use Rattle.std.proofs.lemmas.Bool.{and_parts, ltb-true}
use Rattle.std.proofs.lemmas.List.Elements.{All-from_recursion}
use Rattle.mlir_tree.specs.declared.value.Val.TheVariants.{Res, Arg}
use Rattle.mlir_tree.specs.declared.sign.Sign.TheVariants.{Signless}
use Rattle.mlir_tree.specs.Tree.{int, index, func, no_tys, ty_then, int_attr, array, attr_then, no_attrs, str, sym as symbols}
use Rattle.mlir_tree.specs.Module.{enclosing}
use Rattle.mlir_print.specs.ModuleText.{value_type}
use Rattle.mlir_print.proofs.ModuleExamples.{i32, within, op, root}
use Rattle.mlir_print.proofs.Sample.{described, nested, nested_is_well_formed}
use Rattle.mlir_attributes.specs.Types.{max_open}
use Rattle.round_trip.specs.Printable.{AreBytes, IsPrintableTy, IsPrintableAttr}
use Rattle.round_trip.specs.PrintableRows.{room_of, IsPrintableRow, IsPrintable}
use Rattle.round_trip.specs.Renumbering.{renumbered}

-- a function type in a function type
function_type : IsPrintableTy max_open (func (ty_then i32 (ty_then index no_tys)) (ty_then (func no_tys (ty_then i32 no_tys)) no_tys))
function_type = ((omega arith, (tt, tt)), ((tt, (omega arith, tt)), tt))

-- where no bracket may be opened it isn't
no_room : IsPrintableTy 0 (func no_tys no_tys) → ⊥
no_room h = h

-- an array of an integer, a string and a symbol reference
array_attr : IsPrintableAttr max_open (array (attr_then (int_attr (record { neg = true; mag = 1 }) i32) (attr_then (str (codes "a") None) (attr_then (symbols (codes "f" ∷ [])) no_attrs))))
array_attr = ((omega arith, (omega arith, omega arith)), (((omega arith, tt), tt), ((omega arith, ((omega arith, tt), tt)), tt)))

-- an integer that is out of range isn't printable
out_of_range : IsPrintableAttr max_open (int_attr (record { neg = false; mag = 2 }) (int Signless 1)) → ⊥
out_of_range h = omega (arith, h.1)

-- rows whose numbers go out of order
sample_again : renumbered (record { rows = nested; next = 9 }) ≡ record {
  rows =
      root
      ∷ op 1 (within 0 0) (codes "t.src") [] (i32 ∷ i32 ∷ []) []
      ∷ op 2 (within 0 0) (codes "t.loop") (Res 1 1 ∷ []) (i32 ∷ []) ((i32 ∷ i32 ∷ []) ∷ [] ∷ [])
      ∷ op 3 (within 2 0) (codes "t.in") (Arg 2 0 1 ∷ []) (i32 ∷ []) ((i32 ∷ []) ∷ [])
      ∷ op 4 (within 3 0) (codes "t.use") (Arg 3 0 0 ∷ Res 1 0 ∷ []) [] []
      ∷ op 5 (within 2 0) (codes "t.end") (Res 3 0 ∷ []) [] []
      ∷ described
      ∷ [];
  next = 7;
}
unfolding renumbered
sample_again = refl

bytes_by : (text : List ℕ) → list_all (λ b. nat_lt b 256) text ≡ true → AreBytes text
bytes_by [] h = tt
bytes_by (b ∷ text) h = let parts = and_parts (nat_lt b 256) (list_all (λ b. nat_lt b 256) text) h in (ltb-true b 256 parts.0, bytes_by text parts.1)

-- the module of which the numbers go out of order is printable
sample_is_printable : IsPrintable (record { rows = nested; next = 9 })
unfolding enclosing value_type
sample_is_printable = record {
  well_formed = nested_is_well_formed;
  rows =
      All-from_recursion (λ r. IsPrintableRow nested (room_of nested r) r) nested (
        record { fits = omega arith; name = bytes_by (codes "builtin.module") refl; named = omega arith; operands = tt; results = tt; properties = tt; attributes = tt; arguments = (tt, tt) },
        (
          record { fits = omega arith; name = bytes_by (codes "t.src") refl; named = omega arith; operands = tt; results = (omega arith, (omega arith, tt)); properties = tt; attributes = tt; arguments = tt },
          (
            record { fits = omega arith; name = bytes_by (codes "t.loop") refl; named = omega arith; operands = (omega arith, tt); results = (omega arith, tt); properties = tt; attributes = tt; arguments = ((omega arith, (omega arith, tt)), (tt, tt)) },
            (
              record { fits = omega arith; name = bytes_by (codes "t.in") refl; named = omega arith; operands = (omega arith, tt); results = (omega arith, tt); properties = tt; attributes = tt; arguments = ((omega arith, tt), tt) },
              (
                record { fits = omega arith; name = bytes_by (codes "t.use") refl; named = omega arith; operands = (omega arith, (omega arith, tt)); results = tt; properties = tt; attributes = tt; arguments = tt },
                (
                  record { fits = omega arith; name = bytes_by (codes "t.end") refl; named = omega arith; operands = (omega arith, tt); results = tt; properties = tt; attributes = tt; arguments = tt },
                  (
                    record {
                      fits = omega arith;
                      name = bytes_by (codes "t.f") refl;
                      named = omega arith;
                      operands = tt;
                      results = (omega arith, tt);
                      properties = (bytes_by (codes "a") refl, omega arith, (bytes_by (codes "b") refl, tt, tt));
                      attributes = (bytes_by (codes "c d") refl, tt, tt);
                      arguments = (tt, tt);
                    },
                    tt,
                  ),
                ),
              ),
            ),
          ),
        ),
      );
  few = omega arith;
  slots = omega arith;
}
