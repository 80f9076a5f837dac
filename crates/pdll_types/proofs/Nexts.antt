-- One more declaration behind others: its first fault, or that it has none.
use Rattle.std.proofs.Common.{◌≡◌, inl, inr, List, ◌∷◌, true, false, Option, Some, None, Result, Ok, Err, refl, sym, ap, ◌∙◌}
use Rattle.std.specs.Prelude.{OnOk}
use Rattle.mlir_tree.specs.declared.refusal.Refusal.{Refusal}
use Rattle.mlir_tree.specs.declared.refusal.Refusal.TheVariants as refusal
use Rattle.pdll_syntax.specs.declared.fault.PatFault.{PatFault}
use Rattle.pdll_syntax.specs.declared.file.Decl.{Decl}
use Rattle.pdll_types.specs.declared.files.Earlier.{Earlier}
use Rattle.pdll_types.specs.declared.walk.Walk.{Walk}
use Rattle.pdll_types.specs.Signatures.{Declared, declared}
use Rattle.pdll_types.specs.Accepted.{decl_fault, IsSound, IsFault, of_names, of_numbers, of_size}
use Rattle.pdll_types.specs.Walk.{decl_walked}
use Rattle.pdll_types.specs.Judged.{Later}
use Rattle.pdll_types.specs.Earlier.{IsEarlier, Nexts}
use Rattle.pdll_types.proofs.Law.{decl_least}

named : (e : Earlier) (c : List Declared) (ds : List Decl) (d : Decl) (w : Walk) (o : Option PatFault) → IsEarlier e c ds
    → (decl_walked e.table d w).least ≡ o → decl_fault c d ≡ o
named e c ds d w o h is = ap (λ t. decl_fault t d) (sym h.table) ∙ (sym (decl_least e.table d w) ∙ is)

pub by_names : (e new : Earlier) (c : List Declared) (ds : List Decl) (d : Decl) (w : Walk) (f : PatFault) → IsEarlier e c ds
    → (decl_walked e.table d w).least ≡ Some f → Nexts c ds d new (Err (refusal.Fault f))
by_names e new c ds d w f h is = of_names (named e c ds d w (Some f) h is)

pub by_later : (e new : Earlier) (c : List Declared) (ds : List Decl) (d : Decl) (w : Walk) (f : PatFault) → IsEarlier e c ds
    → (decl_walked e.table d w).least ≡ None → Later ds d (Some f) → Nexts c ds d new (Err (refusal.Fault f))
by_later e new c ds d w f h is (inl first) = of_numbers (named e c ds d w None h is) first
by_later e new c ds d w f h is (inr large) = of_size (named e c ds d w None h is) large.0 large.1 large.2

pub by_none : (e new : Earlier) (c : List Declared) (ds : List Decl) (d : Decl) (w : Walk) → IsEarlier e c ds
    → (decl_walked e.table d w).least ≡ None → Later ds d None → IsEarlier new (declared c d) (d ∷ ds) → Nexts c ds d new (Ok tt)
by_none e new c ds d w h is later next = (record { names = named e c ds d w None h is; determined = later.0; small = later.1 }, next)
