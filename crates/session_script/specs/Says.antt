-- What a text says of edits and compiles.
use Rattle.std.specs.Prelude.{◌≡◌, ℕ, List, map, Some, None, is_none, position, Result, Ok, Err}
use Rattle.term_values.specs.declared.term.Term.{Term}
use Rattle.term_values.specs.Views.{list_of}
use Rattle.elixir_terms.specs.declared.error.TermError.{TermError}
use Rattle.elixir_terms.specs.ReadAs.{IsReadAs, IsRefusedText}
use Rattle.session_script.specs.declared.edit.Edit.{Edit}
use Rattle.session_script.specs.declared.error.ScriptError.{ScriptError}
use Rattle.session_script.specs.declared.error.ScriptError.TheVariants as script
use Rattle.session_script.specs.Elements.{edit_of}

-- what each element asks for, in their order, or the place of the first that has none of the forms
pub data AreEdits (elements : List Term) : Result (List Edit) ScriptError → Type 0 where
  all : {edits : List Edit} → map edit_of elements ≡ map Some edits → AreEdits elements (Ok edits)
  another : {index : ℕ} → position (λ element. is_none (edit_of element)) elements ≡ Some index → AreEdits elements (Err (script.Form index))

-- what a term asks for: a list, what its elements do
pub data TermSays (t : Term) : Result (List Edit) ScriptError → Type 0 where
  no_list : list_of t ≡ None → TermSays t (Err script.Shape)
  list : {elements : List Term} {answer : Result (List Edit) ScriptError} → list_of t ≡ Some elements → AreEdits elements answer → TermSays t answer

-- what a text asks for, or why it is no script
pub data SaysScript (text : List ℕ) : Result (List Edit) ScriptError → Type 0 where
  unread : {error : TermError} → IsRefusedText text error → SaysScript text (Err (script.Term error))
  read : (t : Term) {answer : Result (List Edit) ScriptError} → IsReadAs text t → TermSays t answer → SaysScript text answer
