use Rattle.std.proofs.Common.{rules, refl, ap}
use Rattle.std.specs.Prelude.{Err}
use Rattle.monitor_run.proofs.Telling.OneUse.{use_given, use_failed, use_starved, use_refused, use_none, has_failed, left_told}
use Rattle.monitor_run.proofs.specification.read_spec.Goals as goal

pub returns-in-Ok-text-clause-uses : goal.returns-in-Ok-text-clause-uses
returns-in-Ok-text-clause-uses g c =
    use_given (g.F.Files.texts c.args.files.now) c.args.name.now _ (g.F.Files.opened c.open.new.self) _ _ (g.F.Files.hurt c.open.new.self) _ _ (g.F.Files.unread c.open.new.self) _ _ _
    (c.in-Ok-open.ensures.asked (λ h. let n : ⊥ = cc in n)) c.close.ensures.opened c.in-Ok-open.ensures.hurt c.close.ensures.hurt c.in-Ok-open.ensures.unread c.close.ensures.unread
    (left_told (g.F.Files.texts c.args.files.now) c.args.name.now _ _ c.in-Ok-open.ensures.text c.read_text-text.ensures.taken)

pub returns-in-Err-TooLong-clause-uses : goal.returns-in-Err-TooLong-clause-uses
returns-in-Err-TooLong-clause-uses g c =
    use_given (g.F.Files.texts c.args.files.now) c.args.name.now _ (g.F.Files.opened c.open.new.self) _ _ (g.F.Files.hurt c.open.new.self) _ _ (g.F.Files.unread c.open.new.self) _ _ _
    (c.in-Ok-open.ensures.asked (λ h. let n : ⊥ = cc in n)) c.close.ensures.opened c.in-Ok-open.ensures.hurt c.close.ensures.hurt c.in-Ok-open.ensures.unread c.close.ensures.unread
    (left_told (g.F.Files.texts c.args.files.now) c.args.name.now _ _ c.in-Ok-open.ensures.text c.read_text-text.ensures.taken)

pub returns-in-Err-Failed-text-clause-uses : goal.returns-in-Err-Failed-text-clause-uses
returns-in-Err-Failed-text-clause-uses g c =
    use_failed (g.F.Files.texts c.args.files.now) c.args.name.now _ (g.F.Files.opened c.open.new.self) _ _ (g.F.Files.hurt c.open.new.self) _ _ (g.F.Files.unread c.open.new.self) _ _ _
    (c.in-Ok-open.ensures.asked (λ h. let n : ⊥ = cc in n)) c.close.ensures.opened c.in-Ok-open.ensures.hurt c.close.ensures.hurt c.in-Ok-open.ensures.unread c.close.ensures.unread
    (left_told (g.F.Files.texts c.args.files.now) c.args.name.now _ _ c.in-Ok-open.ensures.text c.read_text-text.ensures.taken)
    (has_failed _ _ c.in-Ok-open.ensures.fresh (c.read_text-text.ensures.failed (search rules)))

pub returns-in-Ok-open-clause-uses : goal.returns-in-Ok-open-clause-uses
returns-in-Ok-open-clause-uses g c =
    use_starved (g.F.Files.texts c.args.files.now) c.args.name.now _ (g.F.Files.opened c.open.new.self) _ _ (g.F.Files.hurt c.open.new.self) _ _ (g.F.Files.unread c.open.new.self) _ _ _
    (c.in-Ok-open.ensures.asked (λ h. let n : ⊥ = cc in n)) c.close.ensures.opened c.in-Ok-open.ensures.hurt c.close.ensures.hurt c.in-Ok-open.ensures.unread c.close.ensures.unread
    (left_told (g.F.Files.texts c.args.files.now) c.args.name.now _ _ c.in-Ok-open.ensures.text c.read_text-text.ensures.taken) refl

pub returns-in-Err-Failed-clause-uses : goal.returns-in-Err-Failed-clause-uses
returns-in-Err-Failed-clause-uses g c =
    use_refused (g.F.Files.texts c.args.files.now) c.args.name.now _ _ (g.F.Files.opened c.open.new.self) _ _ (g.F.Files.hurt c.open.new.self) _ _ (g.F.Files.unread c.open.new.self) (c.open.ensures.asked (λ h. let n : ⊥ = cc in n)) c.open.ensures.hurt c.open.ensures.unread

pub returns-clause-uses : goal.returns-clause-uses
returns-clause-uses g c = use_none (g.F.Files.texts c.args.files.now) c.args.name.now _ _ (g.F.Files.opened c.open.new.self) _ _ (g.F.Files.hurt c.open.new.self) _ _ (g.F.Files.unread c.open.new.self) refl (c.in-Err-NoMemory.ensures.opened (ap Err c.in-Err-NoMemory.field-0-is)) c.open.ensures.hurt c.open.ensures.unread
