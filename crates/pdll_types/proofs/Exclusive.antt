-- A file that is accepted has no first fault.
use Rattle.std.proofs.Common.{◌≡◌, inl, inr, List, [], ◌∷◌, true, false, Some, None}
use Rattle.pdll_syntax.specs.declared.fault.PatFault.{PatFault}
use Rattle.pdll_syntax.specs.declared.file.Decl.{Decl}
use Rattle.pdll_types.specs.Signatures.{Declared, declared}
use Rattle.pdll_types.specs.Accepted.{IsSound, AreSound, IsFault, of_names, of_numbers, of_size, IsFirstFaultOf, IsAccepted, IsFirstFault}
use Rattle.pdll_types.specs.Laws.{AcceptedFilesHaveNoFault}
use Rattle.pdll_types.proofs.Opening.{slice_within}
use Rattle.rewrite_model.specs.Own.{own}

sound_none : (c : List Declared) (earlier : List Decl) (d : Decl) (f : PatFault) → IsSound c earlier d → IsFault c earlier d f → ⊥
sound_none c earlier d f s (of_names h) = let n = s.names in cc
sound_none c earlier d f s (of_numbers h first) =
    let one = first.is_one in
    one.is_open.is_open (s.determined one.number (slice_within (own earlier d).scene.kinds one.number one.plain one.is_open.kind))
sound_none c earlier d f s (of_size h all large same) = let n = s.small in cc

all_none : (c : List Declared) (earlier ds : List Decl) (f : PatFault) → AreSound c earlier ds → IsFirstFaultOf c earlier ds f → ⊥
all_none c earlier [] f s h = h
all_none c earlier (d ∷ ds) f s (inl h) = sound_none c earlier d f s.0 h
all_none c earlier (d ∷ ds) f s (inr h) = all_none (declared c d) (d ∷ earlier) ds f s.1 h.1

pub accepted_files_have_no_fault : AcceptedFilesHaveNoFault
unfolding IsAccepted IsFirstFault
accepted_files_have_no_fault file f a h = all_none [] [] file.decls f a h
