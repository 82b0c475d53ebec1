-- Priorities and severities.
use Rattle.std.specs.Prelude.{◌≡◌, ℕ, ◌%◌, ◌==◌, List, ◌++◌, codes, decimal, if◌then◌else◌}
use Rattle.syslog_lines.specs.declared.priority.Severity.{Severity}
use Rattle.syslog_lines.specs.declared.priority.Severity.TheVariants.{Emergency, Alert, Critical, Error, Warning, Notice, Informational, Debug}

-- the keywords of syslog.conf
abbrev pub keyword_of : Severity → List ℕ
keyword_of Emergency = codes "emerg"
keyword_of Alert = codes "alert"
keyword_of Critical = codes "crit"
keyword_of Error = codes "err"
keyword_of Warning = codes "warning"
keyword_of Notice = codes "notice"
keyword_of Informational = codes "info"
keyword_of Debug = codes "debug"

-- the numbers of RFC 5424, which are the priority's remainder by 8
abbrev pub number_of : Severity → ℕ
number_of Emergency = 0
number_of Alert = 1
number_of Critical = 2
number_of Error = 3
number_of Warning = 4
number_of Notice = 5
number_of Informational = 6
number_of Debug = 7

-- the line begins with this priority in angle brackets, and the rest follows
abbrev pub BeginsWith : List ℕ → ℕ → List ℕ → Type 0
BeginsWith line n rest = line ≡ codes "<" ++ decimal n ++ codes ">" ++ rest

-- the keyword of the severity of a priority
unfoldable pub severity_of : ℕ → List ℕ
severity_of n =
    if n % 8 == 0 then codes "emerg" else
    if n % 8 == 1 then codes "alert" else
    if n % 8 == 2 then codes "crit" else
    if n % 8 == 3 then codes "err" else
    if n % 8 == 4 then codes "warning" else
    if n % 8 == 5 then codes "notice" else
    if n % 8 == 6 then codes "info" else
    codes "debug"

-- the keywords of facilities, in the order of RFC 5424
unfoldable pub facility_of : ℕ → List ℕ
facility_of f =
    if f == 0 then codes "kern" else
    if f == 1 then codes "user" else
    if f == 2 then codes "mail" else
    if f == 3 then codes "daemon" else
    if f == 4 then codes "auth" else
    if f == 5 then codes "syslog" else
    if f == 6 then codes "lpr" else
    if f == 7 then codes "news" else
    if f == 8 then codes "uucp" else
    if f == 9 then codes "cron" else
    if f == 10 then codes "authpriv" else
    if f == 11 then codes "ftp" else
    if f == 12 then codes "ntp" else
    if f == 13 then codes "audit" else
    if f == 14 then codes "alert" else
    if f == 15 then codes "clock" else
    if f == 16 then codes "local0" else
    if f == 17 then codes "local1" else
    if f == 18 then codes "local2" else
    if f == 19 then codes "local3" else
    if f == 20 then codes "local4" else
    if f == 21 then codes "local5" else
    if f == 22 then codes "local6" else
    codes "local7"
