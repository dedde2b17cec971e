-- What a text asks, line by line. Assumes nothing.
use Rattle.std.specs.Prelude.{◌≡◌, ℕ, suc, Bool, true, false, cond, List, [], ◌∷◌, ◌++◌, map, is_some, Some, None, Ok, Err, vec_items, Option, Result, ◌==◌}
use Rattle.layout.specs.declared.name.Name.{Name}
use Rattle.update.specs.declared.answer.Refusal.{Refusal}
use Rattle.update.specs.declared.answer.Refusal.TheVariants.{BadName, Unreadable}
use Rattle.console.specs.declared.escape.NameTooLong.{NameTooLong}
use Rattle.console.specs.declared.verb.Verb.{Verb}
use Rattle.console.specs.declared.verb.Verb.TheVariants.{Away, Check, Disk, Entry, List as Listing, Map, Power, Put, Read, Unread}
use Rattle.console.specs.declared.command.Command.{Command}
use Rattle.console.specs.declared.command.Question.{Question}
use Rattle.console.specs.declared.command.Command.TheVariants as c
use Rattle.console.specs.declared.command.Question.TheVariants as q
use Rattle.console.specs.Lines.{lines}
use Rattle.console.specs.Words.{without_return, trimmed, word, behind}
use Rattle.console.specs.Numbers.{decimal}
use Rattle.console.specs.Names.{Plain, spelled, name_or_length}
use Rattle.console.specs.Bytes.{line_bytes}
use Rattle.console.specs.Verbs.{verb}

-- what is asked: a command; or a line that can't be obeyed, with the command that it begins with, if it begins with one, why, and at which place
pub data Said : Type 0 where
  disk : (blocks line : ℕ) → Said
  power : ℕ → Said
  put : (name : Name) (content : List ℕ) → Said
  away : (name : Name) → Said
  read : (name : Name) → Said
  entry : (name : Name) → Said
  list : Said
  check : Said
  unread : Said
  map_of : Said
  bad : Option Verb → Refusal → ℕ → Said

-- what is asked about a disk
abbrev pub said_of : Question → Said
said_of (q.Read x) = read x
said_of (q.Entry x) = entry x
said_of q.List = list
said_of q.Check = check
said_of q.Unread = unread
said_of q.Map = map_of

abbrev pub said : Command → Said
said (c.Disk n l) = disk n l
said (c.Power n) = power n
said (c.Put x bs) = put x (vec_items bs)
said (c.Away x) = away x
said (c.Ask q) = said_of q
said (c.Bad v q p) = bad v q p

-- a line without what ends it and without the blanks around it
unfoldable pub clean : List ℕ → List ℕ
clean l = trimmed (without_return l)

-- blank lines and comments are passed over
abbrev pub passed_over : List ℕ → Bool
passed_over [] = true
passed_over (b ∷ bs) = b == 35

-- by the command's word that a line begins with
abbrev pub verb_of : List ℕ → Option Verb
verb_of l = verb (word l)

-- the name that the rest of line n spells behind a command's word, or what the line is without one
abbrev pub name_of_length : Verb → Result Name NameTooLong → Result Name Said
name_of_length v (Ok x) = Ok x
name_of_length v (Err e) = Err (bad (Some v) BadName e.len)

abbrev pub name_of_spelled : Verb → ℕ → Option (List ℕ) → Result Name Said
name_of_spelled v n None = Err (bad (Some v) Unreadable n)
name_of_spelled v n (Some bs) = name_of_length v (name_or_length bs)

abbrev pub name_of : Verb → ℕ → List ℕ → Result Name Said
name_of v n [] = Err (bad (Some v) Unreadable n)
name_of v n (b ∷ bs) = name_of_spelled v n (spelled Plain (b ∷ bs))

-- a command on a name
abbrev pub named : (Name → Said) → Result Name Said → Said
named f (Ok x) = f x
named f (Err s) = s

-- a command on a number, and one that is alone on its line
abbrev pub numbered : Verb → (ℕ → Said) → ℕ → Option ℕ → Said
numbered v f n (Some k) = f k
numbered v f n None = bad (Some v) Unreadable n

abbrev pub alone : Verb → Said → ℕ → List ℕ → Said
alone v s n [] = s
alone v s n (b ∷ bs) = bad (Some v) Unreadable n

-- the bytes of the lines from n on, up to the next that begins with a command's word; or the first line that is no line of bytes
abbrev pub line_in_front : ℕ → Option (List ℕ) → Result (List ℕ) ℕ → Result (List ℕ) ℕ
line_in_front n None rest = Err n
line_in_front n (Some bs) (Ok cs) = Ok (bs ++ cs)
line_in_front n (Some bs) (Err m) = Err m

unfoldable pub body : ℕ → List (List ℕ) → Result (List ℕ) ℕ
body n [] = Ok []
body n (l ∷ ls) = cond (passed_over l) (body (suc n) ls) (cond (is_some (verb_of l)) (Ok []) (line_in_front n (line_bytes l) (body (suc n) ls)))

-- a put: its name comes before its bytes
abbrev pub put_said : Result Name Said → Result (List ℕ) ℕ → Said
put_said (Err s) b = s
put_said (Ok x) (Err m) = bad (Some Put) Unreadable m
put_said (Ok x) (Ok bs) = put x bs

-- what line n asks, with this rest behind its command's word; a put, with these bytes behind it
abbrev pub asks : Verb → ℕ → (rest : List ℕ) → Result (List ℕ) ℕ → Said
asks Away n r b = named away (name_of Away n r)
asks Check n r b = alone Check check n r
asks Disk n r b = numbered Disk (λ k. disk k n) n (decimal r)
asks Entry n r b = named entry (name_of Entry n r)
asks Listing n r b = alone Listing list n r
asks Map n r b = alone Map map_of n r
asks Power n r b = numbered Power power n (decimal r)
asks Put n r b = put_said (name_of Put n r) b
asks Read n r b = named read (name_of Read n r)
asks Unread n r b = alone Unread unread n r

abbrev pub is_put : Verb → Bool
is_put Put = true
is_put Away = false
is_put Check = false
is_put Disk = false
is_put Entry = false
is_put Listing = false
is_put Map = false
is_put Power = false
is_put Read = false
is_put Unread = false

-- what line n asks, and then what the lines behind it do, which depends on whether it begins a put; behind a put, lines that begin with no command's word are its bytes
abbrev pub onward : (Bool → List Said) → (behind_put : Bool) → ℕ → List ℕ → List (List ℕ) → Option Verb → List Said
onward rest true n l ls None = rest true
onward rest false n l ls None = bad None Unreadable n ∷ rest false
onward rest p n l ls (Some v) = asks v n (behind l) (body (suc n) ls) ∷ rest (is_put v)

-- what the lines from n on ask
unfoldable pub commands : (behind_put : Bool) → ℕ → List (List ℕ) → List Said
commands p n [] = []
commands p n (l ∷ ls) = cond (passed_over l) (commands p (suc n) ls) (onward (λ q. commands q (suc n) ls) p n l ls (verb_of l))

-- the lines of a text as they are looked at
abbrev pub clean_lines : List ℕ → List (List ℕ)
clean_lines t = map clean (lines t)

-- what a text asks, its lines counted from n
unfoldable pub text_asks : ℕ → List ℕ → List Said
text_asks n t = commands false n (clean_lines t)

-- the bytes in front of a text, read up to the next command: from line n and text t to line m and text u
pub record BodyRead (n : ℕ) (t : List ℕ) (b : Result (List ℕ) ℕ) (m : ℕ) (u : List ℕ) : Type 0 where
  pub bytes : b ≡ body n (clean_lines t)
  pub rest : commands true n (clean_lines t) ≡ text_asks m u

-- one command read of a text: what is asked from line n and text t on is this, and then what is asked from line m and text u on; or nothing
abbrev pub CommandRead : ℕ → List ℕ → Option Command → ℕ → List ℕ → Type 0
CommandRead n t None m u = text_asks n t ≡ []
CommandRead n t (Some c) m u = text_asks n t ≡ said c ∷ text_asks m u
