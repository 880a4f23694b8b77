use Rattle.std.proofs.Common.{map, refl, ap, string_bytes}
use Rattle.std.specs.Prelude.{Err}
use Rattle.run_model.specs.Job.{job_of}
use Rattle.monitor_run.proofs.Telling.Owing.{starved_owes, use_owes}
use Rattle.monitor_run.proofs.session.session.Goals as goal

pub returns-in-Err-clause-owes : goal.returns-in-Err-clause-owes
returns-in-Err-clause-owes g c = starved_owes _ _ _ _ refl refl refl refl refl refl

pub returns-in-Err-NoMemory-clause-owes : goal.returns-in-Err-NoMemory-clause-owes
returns-in-Err-NoMemory-clause-owes g c = starved_owes _ _ _ _ refl refl refl refl refl refl

pub returns-clause-owes : goal.returns-clause-owes
returns-clause-owes g c =
    use_owes (job_of (map string_bytes c.args.words.now)) _ _ c.finish_misused-course.result _ (c.in-Err-Usage.ensures.usage (ap Err c.in-Err-Usage.field-0-is)) c.in-Ok.ensures refl refl refl refl
    c.finish_misused-course.ensures.course c.finish_misused-course.ensures.cause _ refl
