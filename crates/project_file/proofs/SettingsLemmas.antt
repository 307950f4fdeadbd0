-- What a text and the files say of the settings.
use Rattle.std.proofs.Common.{◌≡◌, ℕ, Bool, true, false, List, Option, Some, None, Result, Ok, Err, IsFalse, if◌then◌else◌, refl, sym, ◌∙◌, ap, subst}
use Rattle.mx_base.specs.Blame.Blame.{Input}
use Rattle.elixir_terms.specs.declared.error.TermError.{TermError}
use Rattle.term_values.specs.declared.term.Term.{Term}
use Rattle.elixir_terms.specs.Refusals.{IsRefusal}
use Rattle.term_tokens.specs.Refused.{is_memory}
use Rattle.project_file.specs.declared.error.SettingsError.{SettingsError}
use Rattle.project_file.specs.declared.error.SettingsError.TheVariants as settings
use Rattle.project_file.specs.declared.settings.Settings.{Settings}
use Rattle.project_file.specs.Compilers.{settings_of, no_settings}
use Rattle.elixir_terms.specs.ReadAs.{IsReadAs}
use Rattle.project_file.specs.Files.{SaysSettings}
use Rattle.project_file.specs.Blame.{settings_blame}
use Rattle.project_file.specs.Files.SaysSettings.{absent, unread, shape, set}
use Rattle.project_file.specs.Refusals.{settings_term_refused}

-- the text that was found is the one that was read
says_of : (found : Option (List ℕ)) (text slice : List ℕ) (answer : Result Settings SettingsError) → found ≡ Some text → slice ≡ text → SaysSettings (Some slice) answer → SaysSettings found answer
says_of found text slice answer is same says =
    let Says : Option (List ℕ) → Type 0 = λ o. SaysSettings o answer in
    subst Says (ap (λ (bytes : List ℕ). Some bytes) same ∙ sym is) says

pub settings_absent : (found : Option (List ℕ)) (s : Settings) → found ≡ None → s ≡ no_settings → SaysSettings found (Ok s)
settings_absent found s none is =
    let Says : Option (List ℕ) → Settings → Type 0 = λ o s. SaysSettings o (Ok s) in
    subst (Says found) (sym is) (subst (λ (o : Option (List ℕ)). Says o no_settings) (sym none) absent)

pub settings_unread : (found : Option (List ℕ)) (text slice : List ℕ) (error : TermError) → found ≡ Some text → slice ≡ text → (IsFalse (is_memory error.cause) → IsRefusal slice error.at error.cause) → settings_blame (settings_term_refused error) ≡ Input → SaysSettings found (Err (settings_term_refused error))
settings_unread found text slice error is same why = at (is_memory error.cause) refl
  where
    at : (b : Bool) → is_memory error.cause ≡ b → settings_blame (if b then settings.OutOfMemory else settings.Term error) ≡ Input → SaysSettings found (Err (if b then settings.OutOfMemory else settings.Term error))
    at true m input = cc
    at false m input = says_of found text slice (Err (settings.Term error)) is same (unread (m, why m))

pub settings_set : (found : Option (List ℕ)) (text slice : List ℕ) (t : Term) (read : Option Settings) (s : Settings) → found ≡ Some text → slice ≡ text → IsReadAs slice t → read ≡ settings_of t → read ≡ Some s → SaysSettings found (Ok s)
settings_set found text slice t read s is same reads say some = says_of found text slice (Ok s) is same (set t reads (sym say ∙ some))

pub no_shape : (found : Option (List ℕ)) (text slice : List ℕ) (t : Term) (read : Option Settings) → found ≡ Some text → slice ≡ text → IsReadAs slice t → read ≡ settings_of t → read ≡ None → SaysSettings found (Err settings.Shape)
no_shape found text slice t read is same reads say none = says_of found text slice (Err settings.Shape) is same (shape t reads (sym say ∙ none))
