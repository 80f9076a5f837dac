-- What the way through all declarations finds is what is said of the file.
use Rattle.std.proofs.Common.{◌≡◌, inl, inr, ◌+◌, List, [], ◌∷◌, ◌++◌, length, Result, Ok, Err, refl, sym, ap, ◌∙◌, append_assoc, append-nil, length-append}
use Rattle.mlir_tree.specs.declared.refusal.Refusal.{Refusal}
use Rattle.mlir_tree.specs.declared.refusal.Refusal.TheVariants as refusal
use Rattle.pdll_syntax.specs.declared.fault.PatFault.{PatFault}
use Rattle.pdll_syntax.specs.declared.file.Decl.{Decl}
use Rattle.pdll_syntax.specs.declared.file.PatFile.{PatFile}
use Rattle.pdll_types.specs.declared.walk.Walk.{Walk}
use Rattle.pdll_types.specs.Signatures.{Declared, declared}
use Rattle.pdll_types.specs.Accepted.{found_in, kind_at, root_at, numbers_of, kinds_of, roots_among, IsSound, IsAccepted, IsFirstFault, expression_kinds, root_numbers}
use Rattle.pdll_types.specs.declared.files.Earlier.{Earlier}
use Rattle.pdll_types.specs.Earlier.{Nexts}
use Rattle.pdll_types.specs.Walk.{decl_walked, all_walked, Tells, start}
use Rattle.pdll_types.specs.Judged.{Finds}
use Rattle.pdll_types.proofs.Law.{decl_kinds, decl_roots, decl_counts, numbers_both}

-- ---- kinds and roots

all_kinds : (c : List Declared) (ds : List Decl) (w : Walk) → (all_walked c ds w).kinds ≡ w.kinds ++ kinds_of c ds
all_kinds c [] w = sym (append-nil w.kinds)
all_kinds c (d ∷ ds) w =
    all_kinds (declared c d) ds (decl_walked c d w)
    ∙ (ap (λ k. k ++ kinds_of (declared c d) ds) (decl_kinds c d w) ∙ append_assoc w.kinds (found_in kind_at c d) (kinds_of (declared c d) ds))

all_roots : (c : List Declared) (ds : List Decl) (w : Walk) → (all_walked c ds w).roots ≡ w.roots ++ numbers_of (length w.kinds) (roots_among c ds)
all_roots c [] w = sym (append-nil w.roots)
all_roots c (d ∷ ds) w =
    let e = declared c d in
    let own = found_in root_at c d in
    let rest = roots_among e ds in
    let n = length w.kinds in
    let more = ap length (decl_kinds c d w) ∙ (length-append w.kinds (found_in kind_at c d) ∙ ap (λ k. n + k) (decl_counts c d)) in
    all_roots e ds (decl_walked c d w)
    ∙ (ap (λ r. r ++ numbers_of (length (decl_walked c d w).kinds) rest) (decl_roots c d w)
    ∙ (ap (λ k. (w.roots ++ numbers_of n own) ++ numbers_of k rest) more
    ∙ (append_assoc w.roots (numbers_of n own) (numbers_of (n + length own) rest) ∙ ap (λ ns. w.roots ++ ns) (sym (numbers_both n own rest)))))

-- ---- files

pub tells_file : (file : PatFile) (v : Walk) → Tells [] [] file.decls start (Ok tt) v
    → IsAccepted file × (v.kinds ≡ expression_kinds file) × (v.roots ≡ root_numbers file)
unfolding IsAccepted expression_kinds root_numbers
tells_file file v t = (t.0, ap (λ w. w.kinds) t.1 ∙ all_kinds [] file.decls start, ap (λ w. w.roots) t.1 ∙ all_roots [] file.decls start)

pub refused_is : (file : PatFile) (e : Refusal PatFault) (v : Walk) → Tells [] [] file.decls start (Err e) v → Finds file (Err e)
unfolding IsFirstFault
refused_is file (refusal.Fault f) v h = h
refused_is file refusal.NoMemory v h = tt

-- ---- one more declaration

pub one_told : (c : List Declared) (earlier : List Decl) (d : Decl) (ds : List Decl) (w new : Walk) (r : Result (Unit {0}) (Refusal PatFault)) → IsSound c earlier d
    → Tells (declared c d) (d ∷ earlier) ds (decl_walked c d w) r new → Tells c earlier (d ∷ ds) w r new
one_told c earlier d ds w new (Ok u) s t = ((s, t.0), t.1)
one_told c earlier d ds w new (Err (refusal.Fault f)) s t = inr (s, t)
one_told c earlier d ds w new (Err refusal.NoMemory) s t = tt

-- Of the first declaration that has a fault.
pub next_told : (c : List Declared) (earlier : List Decl) (d : Decl) (ds : List Decl) (w new : Walk) (e : Earlier) (r : Refusal PatFault)
    → Nexts c earlier d e (Err r) → Tells c earlier (d ∷ ds) w (Err r) new
next_told c earlier d ds w new e (refusal.Fault f) h = inl h
next_told c earlier d ds w new e refusal.NoMemory h = tt
