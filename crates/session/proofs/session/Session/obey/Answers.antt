use Rattle.std.proofs.Common.{◌≡◌, ℕ, List, ◌++◌, vec_items, sym, refl, ap, ◌∙◌, subst}
use Rattle.std.proofs.lemmas.Result.{IfOk-weaker}
use Rattle.update.specs.Requests as r
use Rattle.console.specs.Commands.{Said, disk, power, put, away, said, said_of, bad}
use Rattle.session.specs.Obeyed.{lasting, asked_of, made_writes, disk_after, power_after, writes_of}
use Rattle.session.specs.Answered.{Answers}
use Rattle.session.proofs.Asking.{made_anyway}
use Rattle.session.proofs.Keeping.{kept}
use Rattle.session.proofs.Obeying.{idle_asked, idle_bad, disk_left, power_kept, log_kept, log_more, new_left, new_power, new_write, put_left, put_power, put_writes, away_left, away_power, away_writes}
use Rattle.session.proofs.Stopping.{stopped_at}
use Rattle.session.proofs.session.Session.obey.Goals as goal

pub returns-in-Disk-clause-disk : goal.returns-in-Disk-clause-disk
returns-in-Disk-clause-disk c =
    let d = vec_items c.args.self.now.disk in
    let p = c.args.self.now.power in
    let s = said c.args.command.now in
    let taken = c.take_power-lasts.ensures in
    IfOk-weaker c.make_disk.result _ _ (λ _ so. disk_left d p s (disk c.in-Disk.blocks c.in-Disk.line) (ap said c.in-Disk.is) _ (new_left d p c.in-Disk.blocks c.in-Disk.line _ _ (ap vec_items taken.disk) so)) c.make_disk.ensures.disk

pub returns-in-Disk-clause-power : goal.returns-in-Disk-clause-power
returns-in-Disk-clause-power c =
    let d = vec_items c.args.self.now.disk in
    let p = c.args.self.now.power in
    let s = said c.args.command.now in
    let taken = c.take_power-lasts.ensures in
    made_anyway c.make_disk.result (power_kept d p s (disk c.in-Disk.blocks c.in-Disk.line) (ap said c.in-Disk.is) _ (c.make_disk.ensures.power ∙ taken.left) (new_power d p c.in-Disk.blocks c.in-Disk.line))

pub returns-in-Disk-clause-log : goal.returns-in-Disk-clause-log
returns-in-Disk-clause-log c =
    let d = vec_items c.args.self.now.disk in
    let p = c.args.self.now.power in
    let s = said c.args.command.now in
    made_anyway c.make_disk.result (log_kept d p s (disk c.in-Disk.blocks c.in-Disk.line) (ap said c.in-Disk.is) _ (new_write d p c.in-Disk.blocks c.in-Disk.line))

pub returns-in-Disk-clause-promise : goal.returns-in-Disk-clause-promise
returns-in-Disk-clause-promise c = IfOk-weaker c.make_disk.result _ _ (λ _ left. kept _ _ _ _ left) (returns-in-Disk-clause-disk c)

pub returns-in-Power-clause-disk : goal.returns-in-Power-clause-disk
unfolding disk_after
returns-in-Power-clause-disk c =
    let d = vec_items c.args.self.now.disk in
    let p = c.args.self.now.power in
    let s = said c.args.command.now in
    let taken = c.take_power-lasts.ensures in
    disk_left d p s (power c.in-Power.writes) (ap said c.in-Power.is) _ (ap vec_items taken.disk)

pub returns-in-Power-clause-power : goal.returns-in-Power-clause-power
unfolding power_after
returns-in-Power-clause-power c =
    let p = c.args.self.now.power in
    sym (ap (power_after p) (ap said c.in-Power.is))

pub returns-in-Power-clause-log : goal.returns-in-Power-clause-log
unfolding writes_of
returns-in-Power-clause-log c =
    let d = vec_items c.args.self.now.disk in
    let p = c.args.self.now.power in
    let s = said c.args.command.now in
    log_kept d p s (power c.in-Power.writes) (ap said c.in-Power.is) _ refl

pub returns-in-Power-clause-stopped : goal.returns-in-Power-clause-stopped
returns-in-Power-clause-stopped c = stopped_at _ _ _ _ (returns-in-Power-clause-disk c)

pub returns-in-Put-clause-disk : goal.returns-in-Put-clause-disk
returns-in-Put-clause-disk c =
    let d = vec_items c.args.self.now.disk in
    let p = c.args.self.now.power in
    let s = said c.args.command.now in
    let taken = c.take_power-lasts.ensures in
    let request : r.put c.in-Put.name.bytes c.as_slice-content.result.now c.take_power-lasts.result ≡ r.put c.in-Put.name.bytes (vec_items c.in-Put.content) (lasting p) = (λ j. r.put c.in-Put.name.bytes (c.as_slice-content.ensures.value j) (taken.lasts j)) in
    IfOk-weaker c.ask.result _ _ (λ _ so. disk_left d p s (put c.in-Put.name (vec_items c.in-Put.content)) (ap said c.in-Put.is) _ (put_left d p c.in-Put.name (vec_items c.in-Put.content) _ (so ∙ (λ j. asked_of (vec_items (taken.disk j)) (request j))))) c.ask.ensures.disk

pub returns-in-Put-clause-power : goal.returns-in-Put-clause-power
returns-in-Put-clause-power c =
    let d = vec_items c.args.self.now.disk in
    let p = c.args.self.now.power in
    let s = said c.args.command.now in
    let taken = c.take_power-lasts.ensures in
    made_anyway c.ask.result (power_kept d p s (put c.in-Put.name (vec_items c.in-Put.content)) (ap said c.in-Put.is) _ (c.ask.ensures.power ∙ taken.left) (put_power d p c.in-Put.name (vec_items c.in-Put.content)))

pub returns-in-Put-clause-log : goal.returns-in-Put-clause-log
returns-in-Put-clause-log c =
    let d = vec_items c.args.self.now.disk in
    let p = c.args.self.now.power in
    let s = said c.args.command.now in
    let taken = c.take_power-lasts.ensures in
    let request : r.put c.in-Put.name.bytes c.as_slice-content.result.now c.take_power-lasts.result ≡ r.put c.in-Put.name.bytes (vec_items c.in-Put.content) (lasting p) = (λ j. r.put c.in-Put.name.bytes (c.as_slice-content.ensures.value j) (taken.lasts j)) in
    let log = vec_items c.args.log.now in
    IfOk-weaker c.ask.result _ _ (λ _ so. log_more d p s (put c.in-Put.name (vec_items c.in-Put.content)) (ap said c.in-Put.is) log _ (so ∙ (λ j. log ++ made_writes (vec_items (taken.disk j)) (request j)) ∙ ap (λ ws. log ++ ws) (put_writes d p c.in-Put.name (vec_items c.in-Put.content)))) c.ask.ensures.log

pub returns-in-Put-clause-stopped : goal.returns-in-Put-clause-stopped
returns-in-Put-clause-stopped c = IfOk-weaker c.ask.result _ _ (λ _ left. stopped_at _ _ _ _ left) (returns-in-Put-clause-disk c)

pub returns-in-Put-clause-promise : goal.returns-in-Put-clause-promise
returns-in-Put-clause-promise c = IfOk-weaker c.ask.result _ _ (λ _ left. kept _ _ _ _ left) (returns-in-Put-clause-disk c)

pub returns-in-Away-clause-disk : goal.returns-in-Away-clause-disk
returns-in-Away-clause-disk c =
    let d = vec_items c.args.self.now.disk in
    let p = c.args.self.now.power in
    let s = said c.args.command.now in
    let taken = c.take_power-lasts.ensures in
    let request : r.away c.in-Away.name.bytes c.take_power-lasts.result ≡ r.away c.in-Away.name.bytes (lasting p) = (λ j. r.away c.in-Away.name.bytes (taken.lasts j)) in
    IfOk-weaker c.ask-in-Away.result _ _ (λ _ so. disk_left d p s (away c.in-Away.name) (ap said c.in-Away.is) _ (away_left d p c.in-Away.name _ (so ∙ (λ j. asked_of (vec_items (taken.disk j)) (request j))))) c.ask-in-Away.ensures.disk

pub returns-in-Away-clause-power : goal.returns-in-Away-clause-power
returns-in-Away-clause-power c =
    let d = vec_items c.args.self.now.disk in
    let p = c.args.self.now.power in
    let s = said c.args.command.now in
    let taken = c.take_power-lasts.ensures in
    made_anyway c.ask-in-Away.result (power_kept d p s (away c.in-Away.name) (ap said c.in-Away.is) _ (c.ask-in-Away.ensures.power ∙ taken.left) (away_power d p c.in-Away.name))

pub returns-in-Away-clause-log : goal.returns-in-Away-clause-log
returns-in-Away-clause-log c =
    let d = vec_items c.args.self.now.disk in
    let p = c.args.self.now.power in
    let s = said c.args.command.now in
    let taken = c.take_power-lasts.ensures in
    let request : r.away c.in-Away.name.bytes c.take_power-lasts.result ≡ r.away c.in-Away.name.bytes (lasting p) = (λ j. r.away c.in-Away.name.bytes (taken.lasts j)) in
    let log = vec_items c.args.log.now in
    IfOk-weaker c.ask-in-Away.result _ _ (λ _ so. log_more d p s (away c.in-Away.name) (ap said c.in-Away.is) log _ (so ∙ (λ j. log ++ made_writes (vec_items (taken.disk j)) (request j)) ∙ ap (λ ws. log ++ ws) (away_writes d p c.in-Away.name))) c.ask-in-Away.ensures.log

pub returns-in-Away-clause-stopped : goal.returns-in-Away-clause-stopped
returns-in-Away-clause-stopped c = IfOk-weaker c.ask-in-Away.result _ _ (λ _ left. stopped_at _ _ _ _ left) (returns-in-Away-clause-disk c)

pub returns-in-Away-clause-promise : goal.returns-in-Away-clause-promise
returns-in-Away-clause-promise c = IfOk-weaker c.ask-in-Away.result _ _ (λ _ left. kept _ _ _ _ left) (returns-in-Away-clause-disk c)

pub returns-in-Ask-clause-disk : goal.returns-in-Ask-clause-disk
returns-in-Ask-clause-disk c =
    let d = vec_items c.args.self.now.disk in
    let p = c.args.self.now.power in
    let s = said c.args.command.now in
    let taken = c.take_power-lasts.ensures in
    let idle = idle_asked d p c.in-Ask.question in
    made_anyway c.show_judged.result (disk_left d p s (said_of c.in-Ask.question) (ap said c.in-Ask.is) _ (ap vec_items taken.disk ∙ idle.same_disk))

pub returns-in-Ask-clause-power : goal.returns-in-Ask-clause-power
returns-in-Ask-clause-power c =
    let d = vec_items c.args.self.now.disk in
    let p = c.args.self.now.power in
    let s = said c.args.command.now in
    let taken = c.take_power-lasts.ensures in
    let idle = idle_asked d p c.in-Ask.question in
    made_anyway c.show_judged.result (power_kept d p s (said_of c.in-Ask.question) (ap said c.in-Ask.is) _ taken.left idle.same_power)

pub returns-in-Ask-clause-log : goal.returns-in-Ask-clause-log
returns-in-Ask-clause-log c =
    let d = vec_items c.args.self.now.disk in
    let p = c.args.self.now.power in
    let s = said c.args.command.now in
    let idle = idle_asked d p c.in-Ask.question in
    made_anyway c.show_judged.result (log_kept d p s (said_of c.in-Ask.question) (ap said c.in-Ask.is) _ idle.no_write)

pub returns-in-Ask-clause-stopped : goal.returns-in-Ask-clause-stopped
returns-in-Ask-clause-stopped c = IfOk-weaker c.show_judged.result _ _ (λ _ left. stopped_at _ _ _ _ left) (returns-in-Ask-clause-disk c)

pub returns-in-Bad-clause-disk : goal.returns-in-Bad-clause-disk
returns-in-Bad-clause-disk c =
    let d = vec_items c.args.self.now.disk in
    let p = c.args.self.now.power in
    let s = said c.args.command.now in
    let taken = c.take_power-lasts.ensures in
    let idle = idle_bad d p c.in-Bad.verb c.in-Bad.why c.in-Bad.place in
    made_anyway c.refuse_line.result (disk_left d p s (bad c.in-Bad.verb c.in-Bad.why c.in-Bad.place) (ap said c.in-Bad.is) _ (ap vec_items taken.disk ∙ idle.same_disk))

pub returns-in-Bad-clause-power : goal.returns-in-Bad-clause-power
returns-in-Bad-clause-power c =
    let d = vec_items c.args.self.now.disk in
    let p = c.args.self.now.power in
    let s = said c.args.command.now in
    let taken = c.take_power-lasts.ensures in
    let idle = idle_bad d p c.in-Bad.verb c.in-Bad.why c.in-Bad.place in
    made_anyway c.refuse_line.result (power_kept d p s (bad c.in-Bad.verb c.in-Bad.why c.in-Bad.place) (ap said c.in-Bad.is) _ taken.left idle.same_power)

pub returns-in-Bad-clause-log : goal.returns-in-Bad-clause-log
returns-in-Bad-clause-log c =
    let d = vec_items c.args.self.now.disk in
    let p = c.args.self.now.power in
    let s = said c.args.command.now in
    let idle = idle_bad d p c.in-Bad.verb c.in-Bad.why c.in-Bad.place in
    made_anyway c.refuse_line.result (log_kept d p s (bad c.in-Bad.verb c.in-Bad.why c.in-Bad.place) (ap said c.in-Bad.is) _ idle.no_write)

pub returns-in-Bad-clause-stopped : goal.returns-in-Bad-clause-stopped
returns-in-Bad-clause-stopped c = IfOk-weaker c.refuse_line.result _ _ (λ _ left. stopped_at _ _ _ _ left) (returns-in-Bad-clause-disk c)

pub returns-in-Bad-clause-answer : goal.returns-in-Bad-clause-answer
returns-in-Bad-clause-answer c =
    let d = vec_items c.args.self.now.disk in
    let p = c.args.self.now.power in
    let s = said c.args.command.now in
    let taken = c.take_power-lasts.ensures in
    let same : c.as_slice-in-Bad.result.now ≡ d = c.as_slice-in-Bad.ensures.value ∙ ap vec_items taken.disk in
    let is : bad c.in-Bad.verb c.in-Bad.why c.in-Bad.place ≡ s = sym (ap said c.in-Bad.is) in
    IfOk-weaker c.refuse_line.result _ _ (λ done so. subst (λ (q : List ℕ × Said). Answers q.0 p q.1 done) (λ j. (same j, is j)) (so p)) c.refuse_line.ensures.answer
