-- What the words of a run ask for.
use Rattle.std.specs.Prelude.{List, [], ◌∷◌, Option, Some, None}
use Rattle.std.specs.Option.{option_and_then}
use Rattle.qtl_syntax.specs.Tree.{Text}
use Rattle.settings.specs.Asked.{Asked, Origin, FromFile, FromSample, settings_of}

-- how large the run may be, whether it writes true verdicts too, and what it reads
abbrev pub Job : Type 0
Job = Asked

-- no listener is known yet, so a job that names one is a wrong use
abbrev pub without_listeners : List Text → Job → Option Job
without_listeners [] job = Some job
without_listeners (name ∷ names) job = None

-- the job of these words, or nothing where they are a wrong use
abbrev pub job_of : List Text → Option Job
job_of words = option_and_then (λ job. without_listeners job.listen job) (settings_of words)

-- the names of the logs, in order: a sample is no file
abbrev pub names_from : Origin → List Text
names_from (FromFile name) = name ∷ []
names_from (FromSample seed events) = []

abbrev pub log_names : Job → List Text
log_names job = names_from job.log
