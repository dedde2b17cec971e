-- The words that commands begin with. Assumes nothing.
use Rattle.std.specs.Prelude.{ℕ, cond, List, Some, None, codes, Option}
use Rattle.std.specs.Str.{bytes_eq}
use Rattle.console.specs.declared.verb.Verb.{Verb}
use Rattle.console.specs.declared.verb.Verb.TheVariants.{Away, Check, Disk, Entry, List as Listing, Map, Power, Put, Read, Unread}

abbrev pub verb : List ℕ → Option Verb
verb w =
    cond (bytes_eq w (codes "away")) (Some Away)
    (cond (bytes_eq w (codes "check")) (Some Check)
    (cond (bytes_eq w (codes "disk")) (Some Disk)
    (cond (bytes_eq w (codes "entry")) (Some Entry)
    (cond (bytes_eq w (codes "list")) (Some Listing)
    (cond (bytes_eq w (codes "map")) (Some Map)
    (cond (bytes_eq w (codes "power")) (Some Power)
    (cond (bytes_eq w (codes "put")) (Some Put)
    (cond (bytes_eq w (codes "read")) (Some Read)
    (cond (bytes_eq w (codes "unread")) (Some Unread)
    None)))))))))
