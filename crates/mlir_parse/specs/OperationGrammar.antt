-- How operations and regions are spelled (MLIR Language Reference, "Operations", "Blocks" and "Regions", the generic form).
-- Each relation says: from the first place up to the second one stands this.
use Rattle.std.specs.Prelude.{◌≡◌, ℕ, ◌+◌, ◌<◌, ◌≤◌, false, true, List, [], ◌∷◌, length, map, ◌⊎◌, codes, Ok}
use Rattle.text_scan.specs.Strings.{string_value}
use Rattle.mlir_lexer.specs.declared.token.TokenKind.TheVariants as k
use Rattle.mlir_tree.specs.Tree.{Ty}
use Rattle.mlir_attributes.specs.declared.aliases.Alias.{Alias}
use Rattle.mlir_parse.specs.declared.syn.SynResult.{SynResult}
use Rattle.mlir_parse.specs.declared.syn.SynUse.{SynUse}
use Rattle.mlir_parse.specs.declared.syn.SynArg.{SynArg}
use Rattle.mlir_parse.specs.declared.syn.SynEntry.{SynEntry}
use Rattle.mlir_attributes.specs.Place.{Place, moved, left, start}
use Rattle.mlir_attributes.specs.Grammar.{IsSpelled, IsMark, IsNot}
use Rattle.mlir_attributes.specs.TypeGrammar.{IsTy, IsPlain}
use Rattle.mlir_attributes.specs.AttributeGrammar.{IsAttr, IsEntryName, IsBehindName}
use Rattle.mlir_attributes.specs.Numbers.{token_value}
use Rattle.mlir_parse.specs.SynTree.{Head, Operation, operation, Regions, no_regions, region_then, Operations, no_operations, operation_then}
use Rattle.mlir_parse.specs.Lists.{AreListed, AreSome, InBrackets}
use Rattle.mlir_attributes.specs.Steps.{balanced, max_parts, max_operations, max_slots, one_slot, one_operation}
use Rattle.mlir_parse.specs.Entries.{Placed, is_placed, put_placed, syn_entry}
use Rattle.mlir_parse.specs.Operations.{behind_mark, is_index, index_of}

-- ---- names of values

-- The next token begins there.
abbrev pub IsAt : ℕ → Place → Type 0
IsAt at s = at ≡ start s

-- `%` and a name
abbrev pub IsValueName : List ℕ → Place → Place → Type 0
IsValueName name s r = (text : List ℕ) × IsSpelled k.Value text s r × (behind_mark text ≡ name)

-- `:` and a number from 1 to 65,535; or nothing, for 1
abbrev pub IsMaybeCount : ℕ → Place → Place → Type 0
IsMaybeCount n s r =
    (IsNot k.Colon s × (n ≡ 1) × (s ≡ r))
    ⊎ ((s1 : Place) × (text : List ℕ) × IsMark k.Colon s s1 × IsSpelled k.Integer text s1 r × (token_value text ≡ n) × (0 < n) × (n ≤ max_parts))

abbrev pub IsResult : Place → SynResult → Place → Type 0
IsResult s x r = (s1 : Place) × IsAt x.at s × IsValueName x.name s s1 × IsMaybeCount x.count s1 r

-- one or more names of results and `=`, or nothing
abbrev pub AreResults : Place → List SynResult → Place → Type 0
AreResults s [] r = IsNot k.Value s × (s ≡ r)
AreResults s (x ∷ xs) r = (s1 : Place) × AreSome IsResult s (x ∷ xs) s1 × IsMark k.Equal s1 r

-- The next token isn't `#` and digits.
abbrev pub IsNoIndex : Place → Type 0
IsNoIndex s = (text : List ℕ) (r : Place) → IsSpelled k.Hash text s r → is_index text ≡ false

-- `#` and digits; or nothing, for 0
abbrev pub IsMaybeIndex : ℕ → Place → Place → Type 0
IsMaybeIndex n s r =
    (IsNoIndex s × (n ≡ 0) × (s ≡ r))
    ⊎ ((text : List ℕ) × IsSpelled k.Hash text s r × (is_index text ≡ true) × (index_of (behind_mark text) ≡ n))

-- one more operand or result, all of which are at most 16,000,000
abbrev pub IsSlot : Place → Place → Type 0
IsSlot s r = (s.slots < max_slots) × (one_slot s ≡ r)

abbrev pub IsOperand : Place → SynUse → Place → Type 0
IsOperand s x r = (s1 s2 : Place) × IsSlot s s1 × IsAt x.at s1 × IsValueName x.name s1 s2 × IsMaybeIndex x.index s2 r

-- operands in brackets, at most 65,535
abbrev pub AreOperands : ℕ → Place → List SynUse → Place → Type 0
AreOperands room s xs r = InBrackets k.LeftParen k.RightParen (λ inner u v. AreListed IsOperand u xs v × (length xs ≤ max_parts)) room s r

-- ---- locations

-- `loc`, and balanced text in brackets
pub record IsLocation (room : ℕ) (s r : Place) : Type 0 where
  pub behind : Place
  pub inside : Place
  pub is_word : IsSpelled k.Word (codes "loc") s behind
  pub opens : IsMark k.LeftParen behind inside
  pub some : 0 < room
  pub end : ℕ
  pub ends : balanced (left inside) inside.bytes room 1 inside.at ≡ Ok end
  pub rest : moved inside end ≡ r

-- a location, or nothing
abbrev pub IsMaybeLocation : ℕ → Place → Place → Type 0
IsMaybeLocation room s r = (((m : Place) → ¬ IsSpelled k.Word (codes "loc") s m) × (s ≡ r)) ⊎ IsLocation room s r

abbrev pub region_count : Regions → ℕ
region_count no_regions = 0
region_count (region_then args os rs) = region_count rs + 1

-- ---- the name of an operation

-- A string that isn't empty. It is one of at most 1,000,000 operations.
abbrev pub IsOperationName : ℕ → List ℕ → Place → Place → Type 0
IsOperationName at name s r =
    (s1 : Place) × (text : List ℕ) × (s.operations < max_operations) × (one_operation s ≡ s1)
    × IsAt at s1 × IsSpelled k.String text s1 r × (string_value text ≡ name) × (0 < length name)

-- The entries are put in one by one, each under a new name.
abbrev pub Fills : List Placed → List SynEntry → List SynEntry → Type 0
Fills found [] all = map syn_entry found ≡ all
Fills found (e ∷ es) all = (is_placed e.name found ≡ false) × Fills (put_placed e.name e.at e.value found) es all

-- the type of a result, which is one more slot
abbrev pub IsResultType : (Place → Ty → Place → Type 0) → Place → Ty → Place → Type 0
IsResultType Is s t r = (s1 : Place) × IsSlot s s1 × Is s1 t r

module _ (aliases : List Alias) where
  -- ---- dictionaries

  -- a name, and `=` and an attribute, or unit by the name alone
  abbrev pub IsEntryAt : ℕ → Place → SynEntry → Place → Type 0
  IsEntryAt room s e r = (m : Place) × IsAt e.at s × IsEntryName s e.name m × IsBehindName (IsAttr aliases room) m e.value r

  -- A dictionary has its entries in the order of their names, and no name twice.
  abbrev pub IsDictionary : ℕ → Place → List SynEntry → Place → Type 0
  IsDictionary room s all r =
      InBrackets k.LeftBrace k.RightBrace (λ inner u v. (written : List SynEntry) × AreListed (IsEntryAt inner) u written v × Fills [] written all) room s r

  -- a dictionary, or nothing
  abbrev pub AreAttributes : ℕ → Place → List SynEntry → Place → Type 0
  AreAttributes room s es r = (IsNot k.LeftBrace s × (es ≡ []) × (s ≡ r)) ⊎ IsDictionary room s es r

  -- a dictionary in angles, or nothing
  abbrev pub AreProperties : ℕ → Place → List SynEntry → Place → Type 0
  AreProperties room s es r =
      (IsNot k.Less s × (es ≡ []) × (s ≡ r)) ⊎ InBrackets k.Less k.Greater (λ inner u v. IsDictionary inner u es v) room s r

  -- ---- the function type

  abbrev pub AreOperandTypes : ℕ → Place → List Ty → Place → Type 0
  AreOperandTypes room s ts r = InBrackets k.LeftParen k.RightParen (λ inner u v. AreListed (IsTy aliases inner) u ts v) room s r

  abbrev pub IsOneResultType : ℕ → Place → List Ty → Place → Type 0
  IsOneResultType room s [] r = ⊥
  IsOneResultType room s (t ∷ []) r = IsResultType (IsPlain aliases room) s t r
  IsOneResultType room s (t ∷ (u ∷ us)) r = ⊥

  -- one type that isn't written as a function type, or a list of at most 65,535 in brackets
  abbrev pub AreResultTypes : ℕ → Place → List Ty → Place → Type 0
  AreResultTypes room s ts r =
      IsOneResultType room s ts r
      ⊎ InBrackets k.LeftParen k.RightParen (λ inner u v. AreListed (IsResultType (IsTy aliases inner)) u ts v × (length ts ≤ max_parts)) room s r

  -- ---- regions and operations

  abbrev pub IsArgument : ℕ → Place → SynArg → Place → Type 0
  IsArgument room s x r =
      (s1 s2 s3 : Place) × IsAt x.at s × IsValueName x.name s s1 × IsMark k.Colon s1 s2 × IsTy aliases room s2 x.ty s3 × IsMaybeLocation room s3 r

  -- arguments in brackets, which may be left out where there are none
  abbrev pub AreArguments : ℕ → Place → List SynArg → Place → Type 0
  AreArguments room s xs r =
      (IsNot k.LeftParen s × (xs ≡ []) × (s ≡ r))
      ⊎ InBrackets k.LeftParen k.RightParen (λ inner u v. AreListed (IsArgument inner) u xs v × (length xs ≤ max_parts)) room s r

  -- a label and the arguments, or nothing
  abbrev pub IsLabel : ℕ → Place → List SynArg → Place → Type 0
  IsLabel room s xs r =
      (IsNot k.Label s × (xs ≡ []) × (s ≡ r)) ⊎ ((s1 s2 : Place) × IsMark k.Label s s1 × AreArguments room s1 xs s2 × IsMark k.Colon s2 r)

  -- an operation up to its regions
  pub record IsFront (room : ℕ) (h : Head) (s r : Place) : Type 0 where
    pub behind_results : Place
    pub behind_name : Place
    pub behind_operands : Place
    pub results : AreResults s h.results behind_results
    pub name : IsOperationName h.at h.name behind_results behind_name
    pub operands : AreOperands room behind_name h.operands behind_operands
    pub no_successors : IsNot k.LeftBracket behind_operands
    pub properties : AreProperties room behind_operands h.props r

  -- an operation behind its regions
  pub record IsBack (room : ℕ) (h : Head) (s r : Place) : Type 0 where
    pub behind_attributes : Place
    pub types : Place
    pub behind_from : Place
    pub to : Place
    pub behind_to : Place
    pub attributes : AreAttributes room s h.attrs behind_attributes
    pub colon : IsMark k.Colon behind_attributes types
    pub at : IsAt h.types_at types
    pub operand_types : AreOperandTypes room types h.operand_types behind_from
    pub arrow : IsMark k.Arrow behind_from to
    pub result_types : AreResultTypes room to h.result_types behind_to
    pub location : IsMaybeLocation room behind_to r

  -- A region: braces, a label, and what stands behind it.
  abbrev pub IsRegion : (ℕ → Place → Place → Type 0) → ℕ → Place → List SynArg → Place → Type 0
  IsRegion Behind room s args r =
      InBrackets k.LeftBrace k.RightBrace (λ inner u v. (m : Place) × IsLabel inner u args m × Behind inner m v) room s r

  -- The number bounds the brackets that may be opened.
  abbrev mutual
    pub IsOperation : ℕ → Place → Operation → Place → Type 0
    IsOperation room s (operation h rs) r =
        (s1 s2 : Place) × IsFront room h s s1 × AreRegions room s1 rs s2 × IsBack room h s2 r

    -- regions in brackets, at most 65,535, or nothing
    pub AreRegions : ℕ → Place → Regions → Place → Type 0
    AreRegions room s no_regions r = IsNot k.LeftParen s × (s ≡ r)
    AreRegions room s (region_then args os rs) r =
        InBrackets k.LeftParen k.RightParen
        (λ inner u v. (m : Place) × IsRegion (λ deep x y. AreOperations deep x os y) inner u args m × AreMoreRegions inner m rs v
        × (region_count (region_then args os rs) ≤ max_parts)) room s r

    -- further regions, each behind a comma
    pub AreMoreRegions : ℕ → Place → Regions → Place → Type 0
    AreMoreRegions room s no_regions r = IsNot k.Comma s × (s ≡ r)
    AreMoreRegions room s (region_then args os rs) r =
        (s1 s2 : Place) × IsMark k.Comma s s1 × IsRegion (λ deep x y. AreOperations deep x os y) room s1 args s2 × AreMoreRegions room s2 rs r

    -- one after the other
    pub AreOperations : ℕ → Place → Operations → Place → Type 0
    AreOperations room s no_operations r = s ≡ r
    AreOperations room s (operation_then o os) r = (s1 : Place) × IsOperation room s o s1 × AreOperations room s1 os r
