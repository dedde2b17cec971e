use Rattle.std.proofs.Common.{◌≡◌, ◌+◌, true, [], ◌∷◌, map, get_or, drop, sym, ap, ◌∙◌, subst}
use Rattle.std.proofs.lemmas.List.{at_drop_more, at_drop_all}
use Rattle.layout.specs.Files.{file}
use Rattle.fsck.specs.Sound.{sound}
use Rattle.update.specs.declared.request.Request.{Request}
use Rattle.update.specs.declared.request.Request.TheVariants.{Put}
use Rattle.update.specs.Asking.{asked}
use Rattle.update.specs.Requests.{after}
use Rattle.update.proofs.Sequences.{as_done}
use Rattle.update.proofs.Performing.{lawful, Sofar, sofar_more, after_no_more}
use Rattle.update.proofs.request.perform_all.Goals as goal

-- what stands at a place past the end
nothing : Request
nothing = Put (record { ref_ptr = (0, 0); now = [] }) (record { ref_ptr = (0, 0); now = [] }) 0

pub loop-request-preserved : goal.loop-request-preserved
unfolding nothing
loop-request-preserved c =
    let rs = c.args.requests.now in
    let i = c.loop-request.request-index in
    let left : map asked (drop i rs) ≡ asked (get_or rs i nothing) ∷ map asked (drop (i + 1) rs) = at_drop_more (map asked) rs i nothing c.loop-request-test.true in
    sofar_more c.args.disk.now (map asked rs) c.loop-request.disk (asked (get_or rs i nothing)) (map asked (drop (i + 1) rs)) c.perform.result c.perform.new.disk
    (subst (Sofar c.args.disk.now (map asked rs) c.loop-request.disk) left c.loop-request.invariant) c.perform.ensures.says

pub returns : goal.returns
returns c =
    let d = c.args.disk.now in
    let rs = c.args.requests.now in
    let i = c.loop-request.request-index in
    let left : map asked (drop i rs) ≡ [] = at_drop_all (map asked) rs i c.loop-request-test.false in
    let all : sound d ≡ true → c.loop-request.disk ≡ after d (map asked rs) = λ ok. sym (after_no_more c.loop-request.disk) ∙ ap (after c.loop-request.disk) (sym left) ∙ c.loop-request.invariant.rest ok in
    record {
      says = record {
        after_all = all;
        untouched = c.loop-request.invariant.untouched;
      };
      promise = record {
        sound_still = c.loop-request.invariant.still;
        files = λ ok y. ap (λ e. file e y) (all ok) ∙ (as_done lawful d (map asked rs)).files ok y;
      };
    }
