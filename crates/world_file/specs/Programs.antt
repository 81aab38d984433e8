-- The programs of the worlds that come with the program.
use Rattle.std.specs.Prelude.{ℕ, List, ◌++◌, codes}

-- keeps a note under each name, copies and counts them
unfoldable pub notes_text : List ℕ
notes_text =
    codes "route PUT \"/n/*\" { put notes path(2) = body; reply 200 \"\"; }\n"
    ++ (codes "route GET \"/n/*\" { get v = notes path(2); if (v = nothing) { reply 404 \"\"; } reply 200 v; }\n"
    ++ (codes "route DELETE \"/n/*\" { drop notes path(2); reply 200 \"\"; }\n"
    ++ (codes "route POST \"/copy/*/*\" { get v = notes path(2); if (v = nothing) { reply 404 \"\"; } put notes path(3) = v; reply 200 v; }\n"
    ++ codes "route GET \"/count/*\" { let n = 0; each k, t in notes path(2) { let n = (n + 1); } reply 200 text(n); }\n")))

-- sells: each purchase is paid at the bank
unfoldable pub shop_text : List ℕ
shop_text =
    codes "route POST \"/buy/*\" { call s, b = \"bank\" POST (\"/pay/\" ++ path(2)) body; if (s = 200) { put orders path(2) = b; reply 200 b; } put orders path(2) = \"unpaid\"; reply 202 \"unpaid\"; }\n"
    ++ (codes "route POST \"/ping/*\" { call s, b = \"bank\" POST \"/ping\" body; reply s b; }\n"
    ++ (codes "route PUT \"/flag\" { put flags \"on\" = \"1\"; reply 200 \"\"; }\n"
    ++ (codes "route POST \"/maybe/*\" { get v = flags \"on\"; if (v = nothing) { reply 200 \"off\"; } call s, b = \"bank\" POST (\"/pay/\" ++ path(2)) body; reply s b; }\n"
    ++ (codes "route PUT \"/cfg\" { put cfg \"rate\" = body; reply 200 \"\"; }\n"
    ++ (codes "route POST \"/rate/*\" { get r = cfg \"rate\"; call s, b = \"bank\" POST (\"/pay/\" ++ path(2)) text(r); reply s b; }\n"
    ++ (codes "route POST \"/loop\" { call s, b = \"bank\" POST \"/loop\" \"\"; reply s b; }\n"
    ++ (codes "route POST \"/lost\" { call s, b = \"nobody\" POST \"/\" \"\"; reply 200 text(s); }\n"
    ++ (codes "route POST \"/over\" { call s, b = \"bank\" POST \"/ping\" \"\"; put cfg \"z\" = \"1\"; let n = (9223372036854775807 + 1); }\n"
    ++ codes "route POST \"/rand\" { random a; random a; random a; random a; random a; random a; random a; random a; random a; reply 200 \"\"; }\n"))))))))

-- takes payments
unfoldable pub bank_text : List ℕ
bank_text =
    codes "route POST \"/pay/*\" { put paid path(2) = body; reply 200 (\"ok \" ++ body); }\n"
    ++ (codes "route POST \"/ping\" { reply 200 \"pong\"; }\n"
    ++ codes "route POST \"/loop\" { call s, b = \"shop\" POST \"/ping/1\" \"\"; reply 200 text(s); }\n")

-- says whether a user is who they say they are, by tokens
unfoldable pub oauth_text : List ℕ
oauth_text =
    codes "route PUT \"/cfg/debug\" { put cfg \"debug\" = body; reply 200 \"\"; }\n"
    ++ (codes "route PUT \"/token/*\" { put tokens path(2) = body; reply 200 \"\"; }\n"
    ++ codes "route GET \"/verify/*/*\" { get d = cfg \"debug\"; if (d = \"on\") { reply 200 path(2); } get t = tokens path(2); if (t = path(3)) { reply 200 path(2); } reply 403 \"\"; }\n")

-- keeps questions, of users whom `oauth` knows, and pastes each at `dpaste`
unfoldable pub askbot_text : List ℕ
askbot_text =
    codes "route POST \"/post/*/*/*\" { call s, u = \"oauth\" GET (\"/verify/\" ++ (path(2) ++ (\"/\" ++ path(3)))) \"\"; if (s = 200) { put posts path(4) = body; call ps, pb = \"dpaste\" POST (\"/paste/\" ++ path(4)) body; reply 200 \"\"; } reply 403 \"\"; }\n"
    ++ codes "route GET \"/show/*\" { get v = posts path(2); if (v = nothing) { reply 404 \"\"; } reply 200 v; }\n"

-- keeps what is pasted
unfoldable pub dpaste_text : List ℕ
dpaste_text =
    codes "route POST \"/paste/*\" { put pastes path(2) = body; reply 200 \"\"; }\n"
