-- What was read of a line, as the code has it. Assumes nothing.
use Rattle.std.specs.Prelude.{◌≡◌, ℕ, List, IfSome, Some, None, Ok, Err, Option, Result}
use Rattle.layout.specs.declared.name.Name.{Name}
use Rattle.update.specs.declared.answer.Refusal.TheVariants.{BadName, Unreadable}
use Rattle.console.specs.declared.verb.Verb.{Verb}
use Rattle.console.specs.declared.command.Command.{Command}
use Rattle.console.specs.declared.line.Unreadable as u
use Rattle.console.specs.declared.line.LineError.{LineError}
use Rattle.console.specs.declared.line.LineError.TheVariants as error
use Rattle.console.specs.Commands.{Said, bad, said}

-- a line that can't be obeyed, unless memory ran out
abbrev pub error_said : Verb → LineError → Option Said
error_said v (error.Text e) = Some (bad (Some v) Unreadable e.line)
error_said v (error.Name e) = Some (bad (Some v) BadName e.len)
error_said v (error.Memory e) = None

-- the name is this, or the line is this without one, unless memory ran out
abbrev pub NameRead : Verb → Result Name LineError → Result Name Said → Type 0
NameRead v (Ok x) r = Ok x ≡ r
NameRead v (Err e) r = IfSome (error_said v e) (λ s. Err s ≡ r)

-- the line asks this, unless memory ran out
abbrev pub LineAsks : Verb → Result Command LineError → Said → Type 0
LineAsks v (Ok c) s = said c ≡ s
LineAsks v (Err e) s = IfSome (error_said v e) (λ t. t ≡ s)

-- the bytes of a body that was read, or the first line that is no line of bytes
abbrev pub items_or_line : {V : Type 0} → (V → List ℕ) → Result V u.Unreadable → Result (List ℕ) ℕ
items_or_line items (Ok v) = Ok (items v)
items_or_line items (Err e) = Err e.line
